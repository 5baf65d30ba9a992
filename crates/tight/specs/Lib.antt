pub mod Meeting
pub mod Tight
