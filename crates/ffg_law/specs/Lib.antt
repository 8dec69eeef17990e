pub mod Weights
pub mod Links
pub mod Histories
pub mod inside
