pub mod Histories
pub mod Finals
pub mod Follows
