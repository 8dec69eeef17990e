pub mod Adder
