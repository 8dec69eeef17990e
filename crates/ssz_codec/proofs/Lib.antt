mod Cutting
pub mod ItemsLoop
pub mod ListOfParts
pub mod HeldBits
pub mod Halves
pub mod Fieldwise
mod Written
mod Equal
mod RowRead
