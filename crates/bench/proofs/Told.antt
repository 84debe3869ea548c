-- What an answer tells: who sits on the bench after an ask, and who has left it.
use Rattle.std.proofs.Common.{◌≡◌, ℕ, ◌+◌, ◌<◌, ◌≤◌, Bool, true, cond, not, ◌&&◌, ◌||◌, eqb, ◌≢◌, ◌⊎◌, List, ◌∷◌, ap, ◌∙◌, inl, inr, arith}
use Rattle.std.proofs.lemmas.Bool.{cases_eq, eq-eqb, ne_eqb, cond-true, cond-false}
use Rattle.std.proofs.lemmas.Bool.Decides.{nat_tests}
use Rattle.layout.specs.Tables.{Tables, Proper, workshops, has}
use Rattle.points.specs.Standing.{no_row, row_worth}
use Rattle.points.specs.Cursors.{from_row, to_row}
use Rattle.points.proofs.Lots.{row_worth_no_row}
use Rattle.points.proofs.Worths.{row_same}
use Rattle.bench.specs.Row.{taken_in, left_out, answer_of}
use Rattle.bench.specs.Best.{number, ToldApart, BestOf}
use Rattle.bench.specs.declared.Answer.TheVariants.{Kept, Displaced, TurnedDown}
use Rattle.bench.proofs.Numbers.{has_number, has_is}
use Rattle.bench.proofs.Laws.{number_after, taken_in_after, left_out_out}

-- rows of one workshop are told apart by their worth
pub told_apart_rows : (t : Tables) → Proper t → (w : ℕ) → w < workshops t → (xs : List ℕ) →
    ((x : ℕ) → has x xs ≡ true → (x ≡ no_row) ⊎ ((from_row t w ≤ x) × (x < to_row t w))) → ToldApart (row_worth t) xs
told_apart_rows t good w h xs rows x y hx hy pos e =
    elim (rows x hx) [
      | inl none ↦ absurd (omega (arith, ap (row_worth t) none, row_worth_no_row t good))
      | inr rx ↦
          (elim (rows y hy) [
            | inl none ↦ absurd (omega (arith, ap (row_worth t) none, row_worth_no_row t good))
            | inr ry ↦ row_same t good w x y h rx.0 rx.1 ry.0 ry.1 e
          ])
    ]

-- an answer says who is out
pub answer_cases : (x y : ℕ) → ((y ≡ x) × (answer_of x y ≡ TurnedDown)) ⊎ (((y ≢ x) × (y ≡ no_row) × (answer_of x y ≡ Kept)) ⊎ ((y ≢ x) × (y ≢ no_row) × (answer_of x y ≡ Displaced y)))
answer_cases x y =
    elim (cases_eq y x) [
      | inl e ↦ inl (e, cond-true _ _ _ (eq-eqb y x e))
      | inr ne ↦
          (let other = cond-false (eqb y x) TurnedDown (cond (eqb y no_row) Kept (Displaced y)) (ne_eqb y x ne) in
          elim (cases_eq y no_row) [
            | inl e ↦ inr (inl (ne, e, other ∙ cond-true _ _ _ (eq-eqb y no_row e)))
            | inr row ↦ inr (inr (ne, row, other ∙ cond-false _ _ _ (ne_eqb y no_row row)))
          ])
    ]

pub answer_turned_down : (x y : ℕ) → answer_of x y ≡ TurnedDown → y ≡ x
answer_turned_down x y e =
    elim (answer_cases x y) [
      | inl k ↦ k.0
      | inr (inl k) ↦ (let told = k.2 in let no : ◌≡◌ {A = ℕ} 0 1 = cc in absurd (omega arith))
      | inr (inr k) ↦ (let told = k.2 in let no : ◌≡◌ {A = ℕ} 0 1 = cc in absurd (omega arith))
    ]

pub answer_kept : (x y : ℕ) → answer_of x y ≡ Kept → (y ≢ x) × (y ≡ no_row)
answer_kept x y e =
    elim (answer_cases x y) [
      | inl k ↦ (let told = k.1 in let no : ◌≡◌ {A = ℕ} 0 1 = cc in absurd (omega arith))
      | inr (inl k) ↦ (k.0, k.1)
      | inr (inr k) ↦ (let told = k.2 in let no : ◌≡◌ {A = ℕ} 0 1 = cc in absurd (omega arith))
    ]

pub answer_displaced : (x y z : ℕ) → answer_of x y ≡ Displaced z → (y ≢ x) × (y ≢ no_row) × (y ≡ z)
answer_displaced x y z e =
    elim (answer_cases x y) [
      | inl k ↦ (let told = k.1 in let no : ◌≡◌ {A = ℕ} 0 1 = cc in absurd (omega arith))
      | inr (inl k) ↦ (let told = k.2 in let no : ◌≡◌ {A = ℕ} 0 1 = cc in absurd (omega arith))
      | inr (inr k) ↦ (let told = k.2 in (k.0, k.1, cc))
    ]

module _ (v : ℕ → ℕ) (x : ℕ) (xs b : List ℕ) (best : BestOf v xs b) where
  -- whoever sat there or asks, sits there or is out
  pub number_taken_in : (p : ℕ → Bool) → number p (taken_in v x b) + cond (p (left_out v x b)) 1 0 ≡ number p b + cond (p x) 1 0
  number_taken_in p = rw (taken_in_after v x b best.sorted, left_out_out v x b best.sorted) (number_after v p x b)

  -- who is out is the asker, or somebody who had a seat
  pub left_out_known : (left_out v x b ≡ x) ⊎ (has (left_out v x b) b ≡ true)
  left_out_known =
      let y : ℕ = left_out v x b in
      elim (cases_eq y x) [
        | inl e ↦ inl e
        | inr ne ↦ inr (has_number y b (grind (arith, nat_tests, number_taken_in (eqb y))))
      ]

  -- on the bench are those who were, and the asker, but for the one who is out, where nobody asks twice
  pub has_taken_in : (z : ℕ) → z ≢ no_row → number (eqb z) (x ∷ xs) ≤ 1 → has z (taken_in v x b) ≡ ((has z b || eqb z x) && not (eqb z (left_out v x b)))
  unfolding number
  has_taken_in z row once =
      let seats = number_taken_in (eqb z) in
      let few = best.once z row in
      let before = has_is z b in
      let behind = has_is z (taken_in v x b) in
      grind (arith, nat_tests)
