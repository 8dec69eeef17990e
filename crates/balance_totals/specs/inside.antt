-- Words of this crate's own contracts.
pub mod PerSlot
pub mod Sums
pub mod Stakes
pub mod Stirring
