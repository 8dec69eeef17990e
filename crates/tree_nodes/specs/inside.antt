pub mod Grown
pub mod Kept
pub mod Layers
pub mod Lifts
pub mod Nodes
pub mod Plans
pub mod Puts
pub mod Walks
