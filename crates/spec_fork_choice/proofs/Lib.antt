pub mod SameBlock
pub mod Blocks
pub mod Took
pub mod Grows
pub mod Soundness
pub mod Genesis
