pub mod Record
pub mod Frames
pub mod Sources
pub mod Stops
pub mod inside
pub mod laws
