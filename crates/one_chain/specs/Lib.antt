pub mod Answers
pub mod Statuses
pub mod inside
pub mod laws
