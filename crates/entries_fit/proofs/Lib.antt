pub mod Elements
pub mod Unique
