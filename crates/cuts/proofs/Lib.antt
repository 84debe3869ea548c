-- Lemmas over the definitions of specs/.
pub mod Firsts
pub mod Seats
pub mod Reaching
pub mod Defined
