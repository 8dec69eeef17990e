pub mod Balanced
pub mod Differing
pub mod LeftOf
pub mod PartsOfGroups
pub mod Regrouped
pub mod Within
