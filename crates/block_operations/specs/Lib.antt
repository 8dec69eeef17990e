pub mod Indexes
pub mod WithVotes
pub mod inside
