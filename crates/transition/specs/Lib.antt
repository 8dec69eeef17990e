pub mod inside
pub mod Shown
