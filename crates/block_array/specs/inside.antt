pub mod Counts
pub mod Held
pub mod Inputs
pub mod Noted
pub mod Silenced
pub mod BestDescendants
pub mod Tallies
pub mod Tree
