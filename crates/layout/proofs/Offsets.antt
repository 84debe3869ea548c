-- Where the parts of the bytes stand: records against list starts, and that places, starts and counts of rows only grow. Facts of
-- any bytes, faulty or not.
use Rattle.std.proofs.Common.{◌≡◌, ℕ, zero, suc, ◌+◌, ◌*◌, ◌<◌, ◌≤◌, cond, ltb, List, length, get_or, refl, ◌∙◌, ⊎_elim, add-one, arith}
use Rattle.std.proofs.lemmas.Bool.{cases_lt}
use Rattle.std.proofs.lemmas.Bool.Decides.{nat_tests}
use Rattle.layout.specs.Slices.{table}
use Rattle.layout.specs.Bytes.{byte, applicants_in, workshops_in, places_from, record_at, count_in, entry_in, rows_in, row_at, row_workshop_in, seats_before, start_of, rows_before, entries_below}
use Rattle.layout.proofs.Flats.{length_table, length_flat, getD_table, getD_flat}

-- what goes on by steps only grows
pub rises : (g : ℕ → ℕ) (n : ℕ) → ((k : ℕ) → k < n → g k ≤ g (k + 1)) → (i : ℕ) → i ≤ n → g i ≤ g n
rises g zero each i l = let i_is : i ≡ 0 = omega arith in rw i_is (omega arith)
rises g (suc n) each i l =
    ⊎_elim
    (λ (s : i < suc n).
    let below = rises g n (λ k h. each k (omega arith)) i (omega arith) in
    let here = rw (add-one n) at (each n (omega arith)) in
    omega arith)
    (λ (s : suc n ≤ i). let i_is : i ≡ suc n = omega arith in rw i_is (omega arith))
    (cases_lt i (suc n))

module _ (b : List ℕ) where
  pub record_at_none : record_at b 0 ≡ 4 + workshops_in b
  unfolding record_at
  record_at_none = refl

  pub record_at_more : (a : ℕ) → record_at b (a + 1) ≡ record_at b a + 3 + count_in b a
  unfolding record_at
  record_at_more a = rw (add-one a)

  pub start_of_more : (a : ℕ) → start_of b (a + 1) ≡ start_of b a + count_in b a
  unfolding start_of
  start_of_more a = rw (add-one a)

  pub seats_before_more : (w : ℕ) → seats_before b (w + 1) ≡ seats_before b w + byte b (places_from + w)
  unfolding seats_before
  seats_before_more w = rw (add-one w)

  pub rows_before_more : (w i : ℕ) → rows_before b w (i + 1) ≡ cond (ltb (row_workshop_in b i) w) 1 0 + rows_before b w i
  unfolding rows_before
  rows_before_more w i = rw (add-one i)

  -- a record is three bytes and its entries
  pub record_at_is : (a : ℕ) → record_at b a ≡ 4 + workshops_in b + 3 * a + start_of b a
  unfolding record_at start_of
  record_at_is zero = omega arith
  record_at_is (suc a) = omega (arith, record_at_is a)

  pub start_of_mono : (i n : ℕ) → i ≤ n → start_of b i ≤ start_of b n
  start_of_mono i n l = rises (start_of b) n (λ k _. omega (arith, start_of_more k)) i l

  pub seats_before_mono : (i n : ℕ) → i ≤ n → seats_before b i ≤ seats_before b n
  seats_before_mono i n l = rises (seats_before b) n (λ k _. omega (arith, seats_before_more k)) i l

  pub record_at_mono : (i n : ℕ) → i ≤ n → record_at b i ≤ record_at b n
  record_at_mono i n l = rises (record_at b) n (λ k _. omega (arith, record_at_more k)) i l

  -- all parts of a record are there, where the bytes end behind their rows
  pub record_there : length b ≡ row_at b (rows_in b) → (a : ℕ) → a < applicants_in b → record_at b a + 3 + count_in b a ≤ length b
  record_there whole a l = omega (arith, record_at_more a, record_at_mono (a + 1) (applicants_in b) (omega arith))

  -- among more rows
  pub rows_before_mono : (w i n : ℕ) → i ≤ n → rows_before b w i ≤ rows_before b w n
  rows_before_mono w i n l = rises (rows_before b w) n (λ k _. omega (arith, rows_before_more w k)) i l

  -- of more workshops
  pub rows_before_up : (v w i : ℕ) → v ≤ w → rows_before b v i ≤ rows_before b w i
  unfolding rows_before
  rows_before_up v w zero l = omega arith
  rows_before_up v w (suc i) l = let below = rows_before_up v w i l in grind (arith, nat_tests)

  pub rows_before_le : (w i : ℕ) → rows_before b w i ≤ i
  unfolding rows_before
  rows_before_le w zero = omega arith
  rows_before_le w (suc i) = let below = rows_before_le w i in grind (arith, nat_tests)

  -- the entries of the lists below a are as many as the start of a's list says, and entry j of a stands behind them
  pub length_entries_below : (a : ℕ) → length (entries_below b a) ≡ start_of b a
  unfolding start_of
  length_entries_below a =
      length_flat (λ c. table (entry_in b c) (count_in b c)) (start_of b) a refl
      (λ k _. omega (arith, start_of_more k, length_table (entry_in b k) (count_in b k)))

  pub getD_entries_below : (n a j : ℕ) → a < n → j < count_in b a → get_or (entries_below b n) (start_of b a + j) 0 ≡ entry_in b a j
  getD_entries_below n a j l h =
      rw (← length_entries_below a)
      (getD_flat (λ c. table (entry_in b c) (count_in b c)) n a j 0 l (omega (arith, length_table (entry_in b a) (count_in b a)))
      ∙ getD_table (entry_in b a) (count_in b a) j 0 h)
