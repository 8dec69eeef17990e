pub mod Changes
pub mod Plain
