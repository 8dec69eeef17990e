pub mod Disk
pub mod Held
pub mod Shelving
pub mod Tries
