-- How many rows are of workshops before w: where the rows are sorted by workshop, this is the place at which w's rows begin.
use Rattle.std.proofs.Common.{◌≡◌, ℕ, zero, suc, ◌+◌, ◌<◌, ◌≤◌, List, refl, ⊎_elim, arith}
use Rattle.std.proofs.lemmas.Bool.{cases_lt}
use Rattle.std.proofs.lemmas.Bool.Decides.{nat_tests}
use Rattle.layout.specs.Bytes.{row_workshop_in, rows_before}
use Rattle.layout.proofs.Offsets.{rises, rows_before_le, rows_before_mono}

module _ (b : List ℕ) where
  pub rows_before_none : (n : ℕ) → rows_before b 0 n ≡ 0
  unfolding rows_before
  rows_before_none zero = refl
  rows_before_none (suc n) = let below = rows_before_none n in grind (arith, nat_tests)

  -- all of the rows below n
  pub rows_before_all : (w n : ℕ) → ((i : ℕ) → i < n → row_workshop_in b i < w) → rows_before b w n ≡ n
  unfolding rows_before
  rows_before_all w zero each = refl
  rows_before_all w (suc n) each =
      let below = rows_before_all w n (λ i l. each i (omega arith)) in
      let here = each n (omega arith) in
      grind (arith, nat_tests)

  -- none of the rows from k on
  pub rows_before_stops : (w k n : ℕ) → k ≤ n → ((i : ℕ) → k ≤ i → i < n → w ≤ row_workshop_in b i) → rows_before b w n ≡ rows_before b w k
  unfolding rows_before
  rows_before_stops w k zero l each = let k_is : k ≡ 0 = omega arith in rw k_is
  rows_before_stops w k (suc n) l each =
      ⊎_elim
      (λ (s : k < suc n).
      let below = rows_before_stops w k n (omega arith) (λ i g h. each i g (omega arith)) in
      let here = each n (omega arith) (omega arith) in
      grind (arith, nat_tests))
      (λ (s : suc n ≤ k). let k_is : k ≡ suc n = omega arith in rw k_is)
      (cases_lt k (suc n))

  module _ (n : ℕ) (sorted : (i : ℕ) → i + 1 < n → row_workshop_in b i ≤ row_workshop_in b (i + 1)) where
    pub row_workshop_mono : (i k : ℕ) → i ≤ k → k < n → row_workshop_in b i ≤ row_workshop_in b k
    row_workshop_mono i k l h = rises (row_workshop_in b) k (λ j s. sorted j (omega arith)) i l

    -- a row of a workshop before w stands before w's rows
    pub rows_before_below : (w i : ℕ) → i < n → row_workshop_in b i < w → i < rows_before b w n
    rows_before_below w i l h =
        let front = rows_before_all w (suc i) (λ k s. omega (arith, row_workshop_mono k i (omega arith) l)) in
        omega (arith, rows_before_mono b w (suc i) n l)

    -- a row of w or of a workshop after it does not
    pub rows_before_above : (w i : ℕ) → i < n → w ≤ row_workshop_in b i → rows_before b w n ≤ i
    rows_before_above w i l h =
        let back = rows_before_stops w i n (omega arith) (λ k s t. omega (arith, row_workshop_mono i k s t)) in
        omega (arith, rows_before_le b w i)
