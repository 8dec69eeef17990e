pub mod Next
pub mod Source
pub mod inside
