pub mod SetUps
