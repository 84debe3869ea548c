-- Lemmas over the definitions of specs/: the loop of an ask; counting; what an ask does to a bench; that it keeps the best; any order.
pub mod Shift
pub mod Numbers
pub mod Laws
pub mod Holding
pub mod Orders
pub mod Told
