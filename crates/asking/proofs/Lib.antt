-- Lemmas for the run of a round. How far asking has come, in any market:
pub mod Progress
-- the market of tables, the rows of a workshop, and where things stand in the slices:
pub mod Tabled
pub mod Proper
pub mod Standings
pub mod Found
-- the rows of a set of applicants, and the bench once they have asked:
pub mod Gathered
pub mod Benched
-- what the slices hold, from the first ask to the last:
pub mod Parts
pub mod Sums
pub mod Steps
pub mod Begin
pub mod Loops
pub mod Finish
pub mod Tells
-- and what a run promises.
pub mod Fairness
