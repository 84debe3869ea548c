-- Worths tell apart: whoever has a row at a workshop is worth something there, and no two are worth the same.
use Rattle.std.proofs.Common.{◌≡◌, ℕ, ◌<◌, ◌≤◌, ltb, ◌≢◌, get_or, sym, ap, ◌∙◌, inl, inr, arith}
use Rattle.std.proofs.lemmas.Bool.{cases_lt, cond-true, lt-ltb}
use Rattle.layout.specs.Tables.{Tables, Proper, workshops, rows}
use Rattle.round.proofs.Worth.{worth_above, same_points}
use Rattle.points.specs.Standing.{row_of, no_row, points_of_row, lot_of_row, row_worth, worth}
use Rattle.points.specs.Cursors.{from_row, to_row, applicant_of}
use Rattle.points.proofs.Lots.{lot_small, row_worth_past, row_worth_no_row}
use Rattle.points.proofs.Rows.{row_of_cases, row_of_own, row_of_lt, to_row_le}

module _ (t : Tables) (good : Proper t) where
  pub row_worth_pos : (i : ℕ) → i < rows t → 0 < row_worth t i
  unfolding row_worth
  row_worth_pos i h = worth_above (points_of_row t i) (lot_of_row t i) (good.rowed.2 i h)

  pub row_from_worth : (i : ℕ) → 0 < row_worth t i → i < rows t
  row_from_worth i h = elim (cases_lt i (rows t)) [ inl k ↦ k | inr k ↦ absurd (omega (arith, row_worth_past t good i k)) ]

  -- a worth is of one applicant
  pub applicant_same : (i j : ℕ) → 0 < row_worth t i → row_worth t i ≡ row_worth t j → applicant_of t i ≡ applicant_of t j
  unfolding row_worth
  applicant_same i j h e =
      let hi = row_from_worth i h in
      let hj = row_from_worth j (omega arith) in
      let lots = (same_points (points_of_row t i) (points_of_row t j) (lot_of_row t i) (lot_of_row t j) (lot_small t good i) (lot_small t good j) h e).1 in
      let li = cond-true (ltb i (rows t)) (get_or t.lots (applicant_of t i) 0) 0 (lt-ltb i (rows t) hi) in
      let lj = cond-true (ltb j (rows t)) (get_or t.lots (applicant_of t j) 0) 0 (lt-ltb j (rows t) hj) in
      good.apart (applicant_of t i) (applicant_of t j) (good.rowed.1 i hi, good.rowed.1 j hj, sym li ∙ lots ∙ lj)

  -- and among the rows of a workshop of one row
  pub row_same : (w i j : ℕ) → w < workshops t → from_row t w ≤ i → i < to_row t w → from_row t w ≤ j → j < to_row t w → row_worth t i ≡ row_worth t j → i ≡ j
  row_same w i j h li ui lj uj e =
      let same = applicant_same i j (row_worth_pos i (omega (arith, to_row_le t good w h))) e in
      sym (row_of_own t good w i h li ui) ∙ ap (row_of t w) same ∙ row_of_own t good w j h lj uj

  -- those with a row at w are worth something there, and only they
  pub worth_pos : (w a : ℕ) → w < workshops t → row_of t w a ≢ no_row → 0 < worth t w a
  unfolding worth
  worth_pos w a h row = row_worth_pos (row_of t w a) (row_of_lt t good w a h row)

  pub row_from_pos : (w a : ℕ) → 0 < worth t w a → row_of t w a ≢ no_row
  unfolding worth
  row_from_pos w a h e = omega (arith, ap (row_worth t) e, row_worth_no_row t good)

  pub worth_none : (w a : ℕ) → row_of t w a ≡ no_row → worth t w a ≡ 0
  unfolding worth
  worth_none w a e = ap (row_worth t) e ∙ row_worth_no_row t good

  pub row_of_applicant : (w a : ℕ) → row_of t w a ≢ no_row → applicant_of t (row_of t w a) ≡ a
  row_of_applicant w a row = elim (row_of_cases t a w) [ inl n ↦ absurd (row n) | inr s ↦ s.2 ]

  -- no two are worth the same at w
  pub worth_same : (w a b : ℕ) → 0 < worth t w a → worth t w a ≡ worth t w b → a ≡ b
  unfolding worth
  worth_same w a b h e =
      let same = applicant_same (row_of t w a) (row_of t w b) h e in
      sym (row_of_applicant w a (row_from_pos w a h)) ∙ same ∙ row_of_applicant w b (row_from_pos w b (omega arith))

  -- the worth of an applicant's own row
  pub worth_own : (w i : ℕ) → w < workshops t → from_row t w ≤ i → i < to_row t w → worth t w (applicant_of t i) ≡ row_worth t i
  unfolding worth
  worth_own w i h l u = ap (row_worth t) (row_of_own t good w i h l u)
