pub mod Adding
pub mod Numbers
pub mod Reading
