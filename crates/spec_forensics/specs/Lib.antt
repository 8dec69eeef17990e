pub mod CarriedVotes
pub mod Clash
pub mod FirstPair
pub mod Histories
pub mod Offences
pub mod Steady
pub mod Verdict
