pub mod Arriving
pub mod Copies
pub mod PlaceByPlace
pub mod Ticks
