pub mod Found
pub mod Fetched
pub mod Given
pub mod Sourced
