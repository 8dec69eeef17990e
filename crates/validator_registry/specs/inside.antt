pub mod Columns
pub mod Groups
pub mod Places
