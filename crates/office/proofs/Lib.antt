-- Lemmas for the whole program.
pub mod Told
pub mod Laid
pub mod Refills
pub mod Promising
pub mod OtherLists
pub mod Leaving
