pub mod Outcome
pub mod Promises
pub mod Facts
pub mod Owned
pub mod Settling
