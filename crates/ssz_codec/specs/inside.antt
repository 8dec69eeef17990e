pub mod Cutting
pub mod HeldBits
pub mod Halves
pub mod Rows
pub mod Reading
