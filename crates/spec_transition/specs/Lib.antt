pub mod ProcessSlot
pub mod ProcessSlots
pub mod StateTransition
