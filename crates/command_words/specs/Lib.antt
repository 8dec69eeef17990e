pub mod Commands
pub mod inside
