pub mod Cuts
pub mod Promised
pub mod Words
