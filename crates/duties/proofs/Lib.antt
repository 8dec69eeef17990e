pub mod Members
pub mod Picking
pub mod Telling
