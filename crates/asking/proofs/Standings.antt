-- The rows of one workshop: each is of one applicant, who has no other, and no two are worth the same.
use Rattle.std.proofs.Common.{◌≡◌, ℕ, ◌+◌, ◌<◌, ◌≤◌, ◌≢◌, get_or, sym, ap, ◌∙◌, inl, inr, arith}
use Rattle.layout.specs.Tables.{Tables, Proper, workshops, rows}
use Rattle.points.specs.Standing.{no_row, row_of, row_worth}
pub use Rattle.points.proofs.Lots.{row_worth_no_row as row_worth_none}
use Rattle.points.proofs.Rows.{row_of_cases, row_of_own, to_row_le}
pub use Rattle.points.proofs.Worths.{row_worth_pos as row_worth_some}
use Rattle.points.proofs.Worths.{row_same}

-- r is a row of workshop w
abbrev pub Of : Tables → ℕ → ℕ → Type 0
Of t w r = (get_or t.row_starts w 0 ≤ r) × (r < get_or t.row_starts (w + 1) 0)

module _ (t : Tables) (ok : Proper t) (w : ℕ) (l : w < workshops t) where
  pub rows_rise : get_or t.row_starts w 0 ≤ get_or t.row_starts (w + 1) 0
  rows_rise = ok.sheeted.2 w l

  pub row_small : (r : ℕ) → Of t w r → r < rows t
  row_small r h = let s = to_row_le t ok w l in omega arith

  pub row_is_some : (r : ℕ) → Of t w r → r ≢ no_row
  row_is_some r h e = let s = row_small r h in omega (arith, ok.limited.3)

  -- the row of a row's applicant is that row
  pub row_of_applicant : (r : ℕ) → Of t w r → row_of t w (get_or t.row_applicants r 0) ≡ r
  row_of_applicant r h = row_of_own t ok w r l h.0 h.1

  -- an applicant has one row at most
  pub row_once : (r s : ℕ) → Of t w r → Of t w s → get_or t.row_applicants r 0 ≡ get_or t.row_applicants s 0 → r ≡ s
  row_once r s h g e = sym (row_of_applicant r h) ∙ ap (row_of t w) e ∙ row_of_applicant s g

  pub row_found : (a : ℕ) → row_of t w a ≢ no_row → Of t w (row_of t w a) × (get_or t.row_applicants (row_of t w a) 0 ≡ a)
  row_found a ne = elim (row_of_cases t a w) [ inl e ↦ absurd (ne e) | inr f ↦ ((f.0, f.1), f.2) ]

  pub row_lacking : (a : ℕ) → row_of t w a ≡ no_row → (r : ℕ) → Of t w r → get_or t.row_applicants r 0 ≢ a
  row_lacking a none r h e = row_is_some r h (sym (row_of_applicant r h) ∙ ap (row_of t w) e ∙ none)

  -- no two rows have the same worth
  pub row_worth_one : (r s : ℕ) → Of t w r → Of t w s → row_worth t r ≡ row_worth t s → r ≡ s
  row_worth_one r s h g = row_same t ok w r s l h.0 h.1 g.0 g.1
