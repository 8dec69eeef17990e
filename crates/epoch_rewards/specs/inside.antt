-- Words of this crate's own contracts.
pub mod Votes
pub mod Marks
pub mod Inclusions
pub mod Statuses
pub mod Notes
pub mod Divisor
pub mod Components
pub mod InclusionRewards
pub mod Leak
pub mod Rates
pub mod Standings
pub mod Paid
