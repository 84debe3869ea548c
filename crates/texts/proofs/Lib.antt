-- Lemmas for texts that are put together line by line.
pub mod Appends
pub mod Entries
