pub mod Folds
pub mod Outcomes
pub mod Roots
pub mod Searches
pub mod Sums
