pub mod Knowing
pub mod Sends
pub mod Delivers
pub mod Unique
