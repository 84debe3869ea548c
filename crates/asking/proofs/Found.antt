-- Where things stand in the slices: an applicant's entries, the rows that were found for them, and the seats of the workshops.
use Rattle.std.proofs.Common.{◌≡◌, ℕ, ◌+◌, ◌<◌, ◌≤◌, List, length, get_or, take, sym, ap, ◌∙◌, arith}
use Rattle.std.proofs.lemmas.List.{get_or-take, length-take}
use Rattle.layout.specs.Slices.{flat}
use Rattle.layout.specs.Tables.{Tables, Proper, applicants, workshops, list_length, list_at}
use Rattle.layout.proofs.Flats.{length_table, getD_table, getD_flat}
use Rattle.layout.proofs.Offsets.{rises}
use Rattle.points.specs.Standing.{row_of, rows_of_list, rows_found}
use Rattle.points.proofs.Cursors.{starts_le, length_found}
use Rattle.points.proofs.Theory.{getD_list_at}

module _ (t : Tables) (ok : Proper t) where
  -- as many rows as entries
  pub length_rows_found : length (rows_found t) ≡ length t.entries
  unfolding rows_found
  length_rows_found = length_found t ok (applicants t) (omega arith) ∙ ok.started.4

  -- a slice that begins with them is as long
  pub rows_long : (rows : List ℕ) → take (length t.entries) rows ≡ rows_found t → length t.entries ≤ length rows
  rows_long rows e =
      let same : length (take (length t.entries) rows) ≡ length (rows_found t) = ap {B = ℕ} (λ (xs : List ℕ). length xs) e in
      let all = length_rows_found in
      omega (arith, length-take (length t.entries) rows)

  module _ (a : ℕ) (l : a < applicants t) (j : ℕ) (h : j < list_length t a) where
    pub entry_within : get_or t.starts a 0 + j < length t.entries
    entry_within = let s = starts_le t ok a l in omega arith

    pub entry_named : get_or t.entries (get_or t.starts a 0 + j) 0 < workshops t
    entry_named = ok.named _ entry_within

    pub getD_rows_found : get_or (rows_found t) (get_or t.starts a 0 + j) 0 ≡ row_of t (get_or t.entries (get_or t.starts a 0 + j) 0) a
    unfolding rows_found
    getD_rows_found =
        let at = length_found t ok a (omega arith) in
        let long = length_table (λ i. row_of t (get_or (list_at t a) i 0) a) (list_length t a) in
        ap (λ (i : ℕ). get_or (flat (rows_of_list t) (applicants t)) (i + j) 0) (sym at)
        ∙ getD_flat (rows_of_list t) (applicants t) a j 0 l (omega arith)
        ∙ getD_table (λ i. row_of t (get_or (list_at t a) i 0) a) (list_length t a) j 0 h
        ∙ ap (λ (w : ℕ). row_of t w a) (getD_list_at t ok a j 0 l h)

    -- in a slice that begins with the rows found
    pub row_in_slice : (rows : List ℕ) → take (length t.entries) rows ≡ rows_found t → get_or rows (get_or t.starts a 0 + j) 0 ≡ row_of t (get_or t.entries (get_or t.starts a 0 + j) 0) a
    row_in_slice rows e =
        sym (get_or-take (length t.entries) rows (get_or t.starts a 0 + j) 0 entry_within)
        ∙ ap (λ (xs : List ℕ). get_or xs (get_or t.starts a 0 + j) 0) e ∙ getD_rows_found

  module _ (w : ℕ) (l : w < workshops t) where
    -- a workshop's part of the benches
    pub seats_rise : get_or t.seats w 0 ≤ get_or t.seats (w + 1) 0
    seats_rise = ok.seated.1 w l

    pub seats_in_all : get_or t.seats (w + 1) 0 ≤ get_or t.seats (workshops t) 0
    seats_in_all = rises (λ k. get_or t.seats k 0) (workshops t) ok.seated.1 (w + 1) (omega arith)
