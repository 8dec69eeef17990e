pub mod Deposits
pub mod Gathered
pub mod Layers
pub mod Making
pub mod Trees
