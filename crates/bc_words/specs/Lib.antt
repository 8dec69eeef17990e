pub mod Events
pub mod Indices
pub mod Outcome
pub mod Refusals
pub mod Searches
pub mod SquareRoot
