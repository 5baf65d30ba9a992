pub mod All
