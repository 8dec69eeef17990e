pub mod Carried
pub mod Pairs
pub mod Within
