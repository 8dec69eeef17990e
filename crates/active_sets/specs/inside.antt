-- Words of this crate's own contracts, and of those who keep its lists.
pub mod Active
pub mod Kept
pub mod Made
