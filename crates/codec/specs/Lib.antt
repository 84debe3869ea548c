pub mod Fronts
pub mod Puts
pub mod Readers
pub mod Rounds
pub mod Spaces
