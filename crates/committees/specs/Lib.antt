pub mod Shuffling
pub mod Committees
pub mod Proposers
pub mod Seeds
pub mod inside
