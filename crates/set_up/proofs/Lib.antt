pub mod Emptying
pub mod Granting
pub mod Keys
pub mod Unique
pub mod Whole
pub mod Words
