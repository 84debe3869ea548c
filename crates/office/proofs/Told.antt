-- What applicants are told, read off the tables: the line of an applicant is the line of the entry at the told position, or of
-- none.
use Rattle.std.proofs.Common.{◌≡◌, ℕ, ◌+◌, ◌<◌, ◌≤◌, List, length, get_or, Some, None, false, ◌==◌, sym, ap, ⊎_elim, arith}
use Rattle.std.proofs.lemmas.Bool.{cases_lt, lt-ltb, le-ltb}
use Rattle.layout.specs.Tables.{Tables, Proper, applicants, list_length}
use Rattle.layout.proofs.Flats.{length_table, getD_table}
use Rattle.round.specs.Market.{final, placed_at, got, held}
use Rattle.points.specs.Standing.{market}
use Rattle.asking.specs.Ended.{told}
use Rattle.letters.specs.Letter.{place_told}
use Rattle.std.proofs.lemmas.Bool.Decides.{nat_tests}
use Rattle.asking.proofs.Tabled.{starts_within, market_len, market_entry}
use Rattle.office.specs.Outcome.{results_of}
use Rattle.texts.specs.Text.{applicant_line, placed_line, none_line}

module _ (t : Tables) (proper : Proper t) (a : ℕ) (l : a < applicants t) where
  list_few : list_length t a ≤ 20
  list_few = let few = proper.started.3 a l in omega arith

  -- a position in a list is none that stands for nothing
  told_here : final (market t) a < (market t).wish.len a → place_told (told (market t) a) ≡ Some (final (market t) a)
  unfolding told placed_at
  told_here s =
      let few = list_few in
      let len = market_len t proper a l in
      let p = lt-ltb _ _ s in
      let q : (final (market t) a == 255) ≡ false = grind (arith, nat_tests) in
      rw (p, q)

  told_nowhere : (market t).wish.len a ≤ final (market t) a → place_told (told (market t) a) ≡ None
  unfolding told placed_at
  told_nowhere s = let p = le-ltb _ _ s in rw p

  -- whoever is told nothing has no place
  pub told_none : place_told (told (market t) a) ≡ None → none_line a ≡ applicant_line (market t) a
  unfolding applicant_line placed_at
  told_none e =
      ⊎_elim
      (λ (s : final (market t) a < (market t).wish.len a). let h = told_here s in absurd (let z : ◌≡◌ {A = ℕ} 0 1 = cc in omega arith))
      (λ (s : (market t).wish.len a ≤ final (market t) a). let p = le-ltb _ _ s in rw p)
      (cases_lt (final (market t) a) ((market t).wish.len a))

  -- and whoever is told a position has the place that stands there
  pub told_some : (q : ℕ) → place_told (told (market t) a) ≡ Some q →
      (placed_line a (get_or t.entries (get_or t.starts a 0 + q) 0) (q + 1) ≡ applicant_line (market t) a) × (get_or t.starts a 0 + q < length t.entries)
  unfolding applicant_line placed_at got held
  told_some q e =
      let len = market_len t proper a l in
      let within = starts_within t proper a l in
      ⊎_elim
      (λ (s : final (market t) a < (market t).wish.len a).
      let p = lt-ltb _ _ s in
      let h = told_here s in
      let here : q ≡ final (market t) a = cc in
      rw (p, here) (let f = market_entry t proper a l (final (market t) a) (omega arith) in (sym (ap (λ (w : ℕ). placed_line a w (final (market t) a + 1)) f), omega arith)))
      (λ (s : (market t).wish.len a ≤ final (market t) a). let h = told_nowhere s in absurd (let z : ◌≡◌ {A = ℕ} 0 1 = cc in omega arith))
      (cases_lt (final (market t) a) ((market t).wish.len a))

-- The same where the tables stand in slices: u is the round.
module _ (t u : Tables) (proper : Proper t) (same : u ≡ t) (a : ℕ) (l : a < applicants t) where
  pub line_placed : (q : ℕ) → place_told (told (market t) a) ≡ Some q →
      (placed_line a (get_or u.entries (get_or u.starts a 0 + q) 0) (q + 1) ≡ applicant_line (market t) a) × (get_or u.starts a 0 + q < length u.entries)
  line_placed q e = rw same (told_some t proper a l q e)

-- What all are told stands in a slice, in the order of the applicants.
module _ (t : Tables) (xs : List ℕ) (told_in : xs ≡ results_of t) (a : ℕ) (l : a < applicants t) where
  pub told_at : get_or xs a 0 ≡ told (market t) a
  unfolding results_of
  told_at = rw told_in (getD_table (told (market t)) (applicants t) a 0 l)

  pub length_told : a < length xs
  unfolding results_of
  length_told = rw told_in (rw (length_table (told (market t)) (applicants t)) l)
