pub mod Knowing
pub mod Playing
pub mod Unique
pub mod WholeFile
