pub mod Calling
pub mod Shut
pub mod Unique
