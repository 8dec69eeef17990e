pub mod Weights
pub mod Ends
pub mod Finals
pub mod Histories
pub mod Totals
