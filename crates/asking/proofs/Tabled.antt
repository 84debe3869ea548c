-- One applicant's list in the market of tables, in the words of the tables, as the proofs here and in the crates above cite it.
use Rattle.std.proofs.Common.{◌≡◌, ℕ, ◌+◌, ◌<◌, ◌≤◌, length, get_or}
use Rattle.layout.specs.Tables.{Tables, Proper, applicants, list_length, list_at}
use Rattle.points.specs.Standing.{market}
use Rattle.points.proofs.Cursors.{starts_le}
use Rattle.points.proofs.Theory as theory

module _ (t : Tables) (ok : Proper t) (a : ℕ) (l : a < applicants t) where
  pub starts_within : get_or t.starts (a + 1) 0 ≤ length t.entries
  starts_within = starts_le t ok a l

  pub length_list : length (list_at t a) ≡ list_length t a
  length_list = theory.length_list_at t ok a l

  pub getD_list : (j d : ℕ) → j < list_length t a → get_or (list_at t a) j d ≡ get_or t.entries (get_or t.starts a 0 + j) 0
  getD_list j d h = theory.getD_list_at t ok a j d l h

  pub market_len : (market t).wish.len a ≡ list_length t a
  market_len = theory.market_len t ok a l

  pub market_entry : (j : ℕ) → j < list_length t a → (market t).wish.entry a j ≡ get_or t.entries (get_or t.starts a 0 + j) 0
  market_entry j h = theory.market_entry t ok a j l h
