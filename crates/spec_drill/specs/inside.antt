-- Words of the proofs, and of the contracts of the crate that makes the events.
pub mod Calm
pub mod OnChain
pub mod Handled
pub mod Makers
