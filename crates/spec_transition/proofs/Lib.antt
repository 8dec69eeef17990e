pub mod Sound
pub mod HeaderChecks
pub mod SoundSlots
pub mod BlockStays
pub mod HeaderRoot
pub mod Links
pub mod RecentRoots
