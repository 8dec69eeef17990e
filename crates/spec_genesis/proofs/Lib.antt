pub mod Subtrees
pub mod Deposits
pub mod MadeState
pub mod Paid
pub mod Written
pub mod Genesis
pub mod File
pub mod Torn
