-- Where an applicant's row at a workshop stands: the rows of a workshop are sorted by applicant, so it is the first that is not of an
-- earlier applicant, or there is none.
use Rattle.std.proofs.Common.{◌≡◌, ℕ, zero, suc, ◌+◌, ◌-◌, ◌<◌, ◌≤◌, cond, ◌&&◌, eqb, ltb, ◌≢◌, ◌⊎◌, sym, refl, ap, ◌∙◌, inl, inr, arith}
use Rattle.std.proofs.lemmas.Bool.{cases_eq, cases_lt, cases_order, cond_both, cond-true, cond-false, eqb-true, eq-eqb, ne_eqb, lt-ltb, le-ltb, and_from, and_left, and_right}
use Rattle.layout.specs.Tables.{Tables, Proper, workshops, rows}
use Rattle.layout.proofs.OfProper.{row_starts_within}
use Rattle.points.specs.Standing.{row_from, row_of, no_row}
use Rattle.points.specs.Cursors.{from_row, to_row, applicant_of}

module _ (t : Tables) (a : ℕ) where
  row_from_skip : (d i k : ℕ) → d ≤ k → ((j : ℕ) → i ≤ j → j < i + d → applicant_of t j ≢ a) → row_from t a i k ≡ row_from t a (i + d) (k - d)
  unfolding row_from
  row_from_skip zero i k h others = let e : i + 0 ≡ i = omega arith in let f : k - 0 ≡ k = omega arith in cc
  row_from_skip (suc d) i zero h others = absurd (omega arith)
  row_from_skip (suc d) i (suc k) h others =
      let past = cond-false (eqb (applicant_of t i) a) i (row_from t a (i + 1) k) (ne_eqb (applicant_of t i) a (others i (omega arith) (omega arith))) in
      let rest = row_from_skip d (i + 1) k (omega arith) (λ j l u. others j (omega arith) (omega arith)) in
      let e : i + 1 + d ≡ i + suc d = omega arith in
      let f : k - d ≡ suc k - suc d = omega arith in
      cc

  row_from_none : (k i : ℕ) → ((j : ℕ) → i ≤ j → j < i + k → applicant_of t j ≢ a) → row_from t a i k ≡ no_row
  unfolding row_from
  row_from_none zero i others = refl
  row_from_none (suc k) i others =
      cond-false (eqb (applicant_of t i) a) i (row_from t a (i + 1) k) (ne_eqb (applicant_of t i) a (others i (omega arith) (omega arith)))
      ∙ row_from_none k (i + 1) (λ j l u. others j (omega arith) (omega arith))

  row_from_here : (i k : ℕ) → 0 < k → applicant_of t i ≡ a → row_from t a i k ≡ i
  unfolding row_from
  row_from_here i zero h e = absurd (omega arith)
  row_from_here i (suc k) h e = cond-true (eqb (applicant_of t i) a) i (row_from t a (i + 1) k) (eq-eqb (applicant_of t i) a e)

  row_from_cases : (k i : ℕ) → (row_from t a i k ≡ no_row) ⊎ ((i ≤ row_from t a i k) × (row_from t a i k < i + k) × (applicant_of t (row_from t a i k) ≡ a))
  unfolding row_from
  row_from_cases zero i = inl refl
  row_from_cases (suc k) i =
      cond_both (eqb (applicant_of t i) a) i (row_from t a (i + 1) k)
      (λ r. (r ≡ no_row) ⊎ ((i ≤ r) × (r < i + suc k) × (applicant_of t r ≡ a)))
      (λ e. inr (omega arith, omega arith, eqb-true (applicant_of t i) a e))
      (λ e. elim (row_from_cases k (i + 1)) [ inl n ↦ inl n | inr s ↦ inr (omega (arith, s.0), omega (arith, s.1), s.2) ])

  -- the first of w's rows that is a's, if there is one
  pub row_of_at : (w i : ℕ) → from_row t w ≤ i → i < to_row t w → applicant_of t i ≡ a → ((j : ℕ) → from_row t w ≤ j → j < i → applicant_of t j ≢ a) →
      row_of t w a ≡ i
  unfolding row_of
  row_of_at w i l u e others =
      let back : from_row t w + (i - from_row t w) ≡ i = omega arith in
      row_from_skip (i - from_row t w) (from_row t w) (to_row t w - from_row t w) (omega arith) (λ j h k. others j h (omega arith))
      ∙ row_from_here (from_row t w + (i - from_row t w)) (to_row t w - from_row t w - (i - from_row t w)) (omega arith) (rw back e)
      ∙ back

  pub row_of_none : (w : ℕ) → ((j : ℕ) → from_row t w ≤ j → j < to_row t w → applicant_of t j ≢ a) → row_of t w a ≡ no_row
  unfolding row_of
  row_of_none w others = row_from_none (to_row t w - from_row t w) (from_row t w) (λ j l u. others j l (omega arith))

  -- a's row at w is none, or one of w's and a's
  pub row_of_cases : (w : ℕ) → (row_of t w a ≡ no_row) ⊎ ((from_row t w ≤ row_of t w a) × (row_of t w a < to_row t w) × (applicant_of t (row_of t w a) ≡ a))
  unfolding row_of
  row_of_cases w =
      elim (row_from_cases (to_row t w - from_row t w) (from_row t w)) [
        | inl n ↦ inl n
        | inr s ↦ inr (s.0, omega (arith, s.0, s.1), s.2)
      ]

module _ (t : Tables) (good : Proper t) where
  pub to_row_le : (w : ℕ) → w < workshops t → to_row t w ≤ rows t
  to_row_le w h = row_starts_within t good (w + 1) (omega arith)

  applicants_rise : (w i d : ℕ) → w < workshops t → from_row t w ≤ i → i + suc d < to_row t w → applicant_of t i < applicant_of t (i + suc d)
  applicants_rise w i zero h l u = good.sorted w i (h, l, u)
  applicants_rise w i (suc d) h l u =
      let e : i + suc (suc d) ≡ i + suc d + 1 = omega arith in
      rw e (omega (arith, applicants_rise w i d h l (omega arith), good.sorted w (i + suc d) (h, omega arith, omega arith)))

  -- the rows of a workshop are sorted by applicant
  pub rows_rise : (w i j : ℕ) → w < workshops t → from_row t w ≤ i → i < j → j < to_row t w → applicant_of t i < applicant_of t j
  rows_rise w i j h l m u =
      let e : i + suc (j - suc i) ≡ j = omega arith in
      rw e at (applicants_rise w i (j - suc i) h l (omega arith))

  -- the first row of w whose applicant is not before a is a's row, if it is a's, and else a has none
  pub row_of_first : (w a i : ℕ) → w < workshops t → from_row t w ≤ i → i ≤ to_row t w → ((j : ℕ) → from_row t w ≤ j → j < i → applicant_of t j < a) →
      (i < to_row t w → a ≤ applicant_of t i) → row_of t w a ≡ cond (ltb i (to_row t w) && eqb (applicant_of t i) a) i no_row
  row_of_first w a i h l u before here =
      elim (cases_lt i (to_row t w)) [
        | inl k ↦
            (elim (cases_eq (applicant_of t i) a) [
              | inl e ↦
                  row_of_at t a w i l k e (λ j lj uj. λ f. omega (arith, before j lj uj))
                  ∙ sym (cond-true _ _ _ (and_from _ _ (lt-ltb i (to_row t w) k) (eq-eqb (applicant_of t i) a e)))
              | inr ne ↦
                  row_of_none t a w (λ j lj uj. after_first j lj uj k ne)
                  ∙ sym (cond-false _ _ _ (and_right _ _ (ne_eqb (applicant_of t i) a ne)))
            ])
        | inr k ↦
            row_of_none t a w (λ j lj uj. λ f. omega (arith, before j lj (omega arith)))
            ∙ sym (cond-false _ _ _ (and_left _ _ (le-ltb i (to_row t w) k)))
      ]
    where
      after_first : (j : ℕ) → from_row t w ≤ j → j < to_row t w → i < to_row t w → (applicant_of t i ≡ a → ⊥) → applicant_of t j ≢ a
      after_first j lj uj k ne f =
          elim (cases_order i j) [
            | inl e ↦ ne (ap (applicant_of t) e ∙ f)
            | inr (inl m) ↦ omega (arith, rows_rise w i j h l m uj, here k)
            | inr (inr m) ↦ omega (arith, before j lj m)
          ]

  -- an applicant has one row at a workshop
  pub row_of_own : (w i : ℕ) → w < workshops t → from_row t w ≤ i → i < to_row t w → row_of t w (applicant_of t i) ≡ i
  row_of_own w i h l u = row_of_at t (applicant_of t i) w i l u refl (λ j lj uj f. omega (arith, rows_rise w j i h lj uj u))

  pub row_of_lt : (w a : ℕ) → w < workshops t → row_of t w a ≢ no_row → row_of t w a < rows t
  row_of_lt w a h row = elim (row_of_cases t a w) [ inl n ↦ absurd (row n) | inr s ↦ omega (arith, s.1, to_row_le w h) ]
