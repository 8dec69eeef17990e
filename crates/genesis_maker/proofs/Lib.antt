pub mod Files
pub mod Gathered
pub mod Layers
pub mod Made
pub mod Readings
pub mod Taken
pub mod Trees
