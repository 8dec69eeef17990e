pub mod Following
pub mod Rebalanced
