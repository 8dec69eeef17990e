pub mod Chain
pub mod inside
