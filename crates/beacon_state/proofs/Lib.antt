pub mod Balances
pub mod FirstFault
pub mod Followed
pub mod Unread
