pub mod ActiveLeft
pub mod LeftOf
pub mod LookedUp
pub mod Gathered
