pub mod Parts
pub mod Grows
pub mod Coming
pub mod Again
pub mod Alike
pub mod Fetching
pub mod Nexting
pub mod Supplying
