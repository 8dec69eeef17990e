-- Words of contracts.
pub mod EpochCommittees
