pub mod Ancestors
pub mod Caches
pub mod Chains
pub mod Items
pub mod Keeps
pub mod Made
pub mod Places
pub mod Taken
