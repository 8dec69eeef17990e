pub mod Told
pub mod Calls
pub mod Memory
pub mod inside
