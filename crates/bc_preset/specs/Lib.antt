pub mod Presets
pub mod Keys
pub mod Numbers
pub mod Lines
pub mod Configs
pub mod inside
pub mod laws
