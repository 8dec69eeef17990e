pub mod Bounds
pub mod Digits
pub mod Prefixes
pub mod FirstLine
pub mod Ranges
pub mod OnePass
