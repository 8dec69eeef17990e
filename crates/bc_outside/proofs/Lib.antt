pub mod Keeping
pub mod Taking
pub mod Held
pub mod Shelved
pub mod Onto
