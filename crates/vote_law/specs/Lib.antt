pub mod Backed
pub mod Ends
pub mod Runs
