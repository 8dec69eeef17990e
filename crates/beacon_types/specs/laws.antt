pub mod Containers
pub mod Blocks
pub mod Limits
