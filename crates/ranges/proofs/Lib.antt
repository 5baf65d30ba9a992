pub mod Halving
pub mod Unique
