-- Facts of proper tables: lists and rows lie within their tables, and what a list holds.
use Rattle.std.proofs.Common.{◌≡◌, ℕ, ◌+◌, ◌<◌, ◌≤◌, length, get_or, drop, ◌∙◌, arith}
use Rattle.std.proofs.lemmas.List.{length-take-le, length-drop, get_or-take, get_or-drop}
use Rattle.layout.specs.Tables.{Tables, Proper, applicants, workshops, rows, list_length, list_at}
use Rattle.layout.proofs.Flats.{step_of}
use Rattle.layout.proofs.Offsets.{rises}

module _ (t : Tables) (p : Proper t) where
  pub starts_within : (a : ℕ) → a ≤ applicants t → get_or t.starts a 0 ≤ length t.entries
  starts_within a l = omega (arith, p.started.4, rises (λ k. get_or t.starts k 0) (applicants t) p.started.2 a l)

  pub row_starts_within : (w : ℕ) → w ≤ workshops t → get_or t.row_starts w 0 ≤ rows t
  row_starts_within w l = omega (arith, p.sheeted.3, rises (λ k. get_or t.row_starts k 0) (workshops t) p.sheeted.2 w l)

  pub length_list_at : (a : ℕ) → a < applicants t → length (list_at t a) ≡ list_length t a
  length_list_at a l =
      length-take-le (list_length t a) (drop (get_or t.starts a 0) t.entries)
      (omega (arith, length-drop (get_or t.starts a 0) t.entries, starts_within a (omega arith), starts_within (a + 1) (omega arith)))

  pub getD_list_at : (a j : ℕ) → j < list_length t a → get_or (list_at t a) j 0 ≡ get_or t.entries (get_or t.starts a 0 + j) 0
  getD_list_at a j h =
      get_or-take (list_length t a) (drop (get_or t.starts a 0) t.entries) j 0 h ∙ get_or-drop (get_or t.starts a 0) t.entries j 0

  -- the workshop of row i
  pub sheet_of : (i : ℕ) → i < rows t → (w : ℕ) × (w < workshops t) × (get_or t.row_starts w 0 ≤ i) × (i < get_or t.row_starts (w + 1) 0)
  sheet_of i l = step_of (λ w. get_or t.row_starts w 0) (workshops t) i p.sheeted.1 (omega (arith, p.sheeted.3))

  pub row_starts_mono : (v w : ℕ) → v ≤ w → w ≤ workshops t → get_or t.row_starts v 0 ≤ get_or t.row_starts w 0
  row_starts_mono v w l h = rises (λ k. get_or t.row_starts k 0) w (λ k s. p.sheeted.2 k (omega arith)) v l
