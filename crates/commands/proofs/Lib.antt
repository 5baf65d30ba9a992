pub mod Ways
pub mod Making
pub mod Arrays
pub mod Listing
pub mod Projecting
pub mod Sealing
pub mod Parsing
pub mod Unique
