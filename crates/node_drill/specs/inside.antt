-- Words of this crate's own contracts.
pub mod Arrivals
