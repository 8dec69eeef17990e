pub mod Containers
pub mod Blocks
pub mod Equality
pub mod Limits
pub mod Slashable
pub mod laws
pub mod inside
