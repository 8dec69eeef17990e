pub mod Operations
pub mod Tests
pub mod Epochs
pub mod Visits
