-- Laws that contracts cite.
pub mod Bounds
