pub mod Committees
pub mod Fields
pub mod NextVotes
pub mod Steps
pub mod Sourced
