pub mod Cache
pub mod Entries
