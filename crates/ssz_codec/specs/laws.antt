pub mod Layout
pub mod Basic
pub mod BitLists
pub mod Lists
pub mod Containers
