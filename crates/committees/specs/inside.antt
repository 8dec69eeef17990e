-- Words of this crate's own contracts.
pub mod Pass
pub mod Planes
pub mod Split
pub mod Passing
