-- Lemmas over the definitions of specs/: counting, then the theory of markets, then the theorems.
pub mod Count
pub mod Askers
pub mod Ends
pub mod Stability
pub mod Newcomer
pub mod Coalition
pub mod Theorems
-- Rounds: the way of keeping by points, the given step-by-step definitions, the given statements.
pub mod Worth
pub mod Best
pub mod Ranks
pub mod Ending
pub mod Bridge
pub mod Same
pub mod Promised
pub mod Orders
pub mod Cuts
pub mod Rounds
pub mod Judging
