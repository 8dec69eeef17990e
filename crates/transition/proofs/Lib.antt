pub mod Loop
pub mod Tests
pub mod Blocks
pub mod Epochs
pub mod Registries
pub mod Visits
