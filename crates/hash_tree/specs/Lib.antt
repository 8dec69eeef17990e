pub mod Merkle
pub mod Pairs
pub mod inside
