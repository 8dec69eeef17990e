pub mod MadeGenesis
pub mod Soundness
