-- Words of this crate's own contracts.
pub mod Queue
pub mod Paid
pub mod Slashed
pub mod Attested
pub mod Bits
pub mod Pending
pub mod Counted
pub mod Branches
pub mod Notes
