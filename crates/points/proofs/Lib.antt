-- Lemmas over the definitions of specs/: lots and worths; where rows stand; the merge pass; the round and the market of the tables.
pub mod Lots
pub mod Rows
pub mod Cursors
pub mod Worths
pub mod Theory
