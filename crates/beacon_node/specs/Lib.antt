pub mod Commands
pub mod Findings
pub mod Pace
pub mod Slashings
pub mod inside
pub mod laws
