pub mod Acting
pub mod Unique
pub mod Shut
