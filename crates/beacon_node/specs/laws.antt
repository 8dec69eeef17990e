pub mod Convictions
pub mod Memory
pub mod Versions
