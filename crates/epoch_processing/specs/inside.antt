-- Words of this crate's own contracts.
pub mod Exits
pub mod Ranks
pub mod Penalties
pub mod Updates
