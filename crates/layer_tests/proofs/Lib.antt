pub mod Stepped
pub mod Silenced
