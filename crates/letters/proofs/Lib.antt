-- Lemmas over the definitions of specs/.
pub mod Reading
pub mod Writing
pub mod Entries
pub mod Formed
pub mod RoundTrip
pub mod Judged
pub mod Told
