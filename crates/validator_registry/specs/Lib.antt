pub mod Registries
pub mod inside
