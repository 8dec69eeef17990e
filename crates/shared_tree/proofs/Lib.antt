pub mod Keeps
pub mod Packing
pub mod Packs
pub mod ChunkChanges
pub mod Turns
