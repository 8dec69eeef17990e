-- Words of this crate's own contracts.
pub mod Views
pub mod Votes
pub mod Standing
pub mod Stops
