pub mod Records
pub mod Unique
