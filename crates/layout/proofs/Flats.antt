-- Laws of `table`, a list made from a function of the index, and of `flat`, lists one after the other: lengths, what stands where,
-- one more at the end, and how to show that a list is one of them.
use Rattle.std.proofs.Common.{◌≡◌, ℕ, zero, suc, ◌+◌, ◌<◌, ◌≤◌, List, [], ◌∷◌, ◌++◌, length, get_or, take, drop, sym, refl, ap, ◌∙◌, ap₂, ⊎_elim, add-one, arith}
use Rattle.std.proofs.lemmas.List.FromFn.{length-map-range_with_len, get_or-map-range_with_len, map-range_with_len_more, take-map-range_with_len, fill_by_all}
use Rattle.std.proofs.lemmas.List.{append_assoc, length-append, length-take-le, length-drop, take-append-drop, take-append-le, take_all, drop_at, drop-drop, drop-append-le, get_or-drop, get_or-take, get_or_append_left}
use Rattle.std.proofs.lemmas.Bool.{cases_lt}
use Rattle.layout.specs.Slices.{table, flat}

module _ {X : Type 0} (f : ℕ → X) where
  pub length_table : (n : ℕ) → length (table f n) ≡ n
  length_table n = length-map-range_with_len f 0 n

  pub getD_table : (n k : ℕ) (d : X) → k < n → get_or (table f n) k d ≡ f k
  getD_table n k d l = get_or-map-range_with_len f 0 n k k d l (omega arith)

  pub table_more : (n : ℕ) → table f (n + 1) ≡ table f n ++ f n ∷ []
  table_more n = map-range_with_len_more f 0 n n (omega arith)

  pub take_table : (n k : ℕ) → k ≤ n → take k (table f n) ≡ table f k
  take_table n k l = take-map-range_with_len f 0 n k l

  -- a list with these elements is the table
  pub is_table : (xs : List X) (n : ℕ) (d : X) → length xs ≡ n → ((k : ℕ) → k < n → get_or xs k d ≡ f k) → xs ≡ table f n
  is_table xs n d len h = fill_by_all f xs n d len h

pub table_same : {X : Type 0} (d : X) (f g : ℕ → X) (n : ℕ) → ((k : ℕ) → k < n → f k ≡ g k) → table f n ≡ table g n
table_same d f g n h = is_table g (table f n) n d (length_table f n) (λ k l. getD_table f n k d l ∙ h k l)

-- the first n numbers of b from p on are a table, if they are there
pub drop_table : (f : ℕ → ℕ) (b : List ℕ) (p n : ℕ) → p + n ≤ length b → ((k : ℕ) → k < n → get_or b (p + k) 0 ≡ f k) →
    drop p b ≡ table f n ++ drop (p + n) b
drop_table f b p n l h =
    let len : length (take n (drop p b)) ≡ n = length-take-le n (drop p b) (omega (arith, length-drop p b)) in
    let front = is_table f (take n (drop p b)) n 0 len (λ k s. get_or-take n (drop p b) k 0 s ∙ get_or-drop p b k 0 ∙ h k s) in
    sym (take-append-drop n (drop p b)) ∙ ap₂ ◌++◌ front (drop-drop n p b)

module _ (f : ℕ → List ℕ) where
  pub flat_more : (n : ℕ) → flat f (n + 1) ≡ flat f n ++ f n
  unfolding flat
  flat_more n = rw (add-one n)

  -- g gives where each list begins
  pub length_flat : (g : ℕ → ℕ) (n : ℕ) → g 0 ≡ 0 → ((k : ℕ) → k < n → g (k + 1) ≡ g k + length (f k)) → length (flat f n) ≡ g n
  unfolding flat
  length_flat g zero none more = sym none
  length_flat g (suc n) none more =
      let before = length_flat g n none (λ k l. more k (omega arith)) in
      let here = rw (add-one n) at (more n (omega arith)) in
      let joined = length-append (flat f n) (f n) in
      omega arith

  pub length_flat_mono : (k n : ℕ) → k ≤ n → length (flat f k) ≤ length (flat f n)
  unfolding flat
  length_flat_mono k zero l = let k_is : k ≡ 0 = omega arith in rw k_is (omega arith)
  length_flat_mono k (suc n) l =
      ⊎_elim
      (λ (s : k < suc n). omega (arith, length_flat_mono k n (omega arith), length-append (flat f n) (f n)))
      (λ (s : suc n ≤ k). let k_is : k ≡ suc n = omega arith in rw k_is (omega arith))
      (cases_lt k (suc n))

  -- the first k lists
  pub take_flat : (n k : ℕ) → k ≤ n → take (length (flat f k)) (flat f n) ≡ flat f k
  unfolding flat
  take_flat zero k l = let k_is : k ≡ 0 = omega arith in rw k_is
  take_flat (suc n) k l =
      ⊎_elim
      (λ (s : k < suc n).
      take-append-le (length (flat f k)) (flat f n) (f n) (length_flat_mono k n (omega arith)) ∙ take_flat n k (omega arith))
      (λ (s : suc n ≤ k). let k_is : k ≡ suc n = omega arith in rw k_is (take_all _ (flat f (suc n)) (omega arith)))
      (cases_lt k (suc n))

  -- from list k on: list k, and what comes after it
  pub drop_flat : (n k : ℕ) → k < n →
      drop (length (flat f k)) (flat f n) ≡ f k ++ drop (length (flat f (k + 1))) (flat f n)
  drop_flat n k l =
      let rest = drop (length (flat f (k + 1))) (flat f n) in
      let whole : flat f n ≡ flat f k ++ (f k ++ rest) =
      sym (take-append-drop (length (flat f (k + 1))) (flat f n))
      ∙ ap (λ (x : List ℕ). x ++ rest) (take_flat n (k + 1) (omega arith) ∙ flat_more k)
      ∙ append_assoc (flat f k) (f k) rest
      in
      ap (λ (x : List ℕ). drop (length (flat f k)) x) whole ∙ drop_at (flat f k) (f k ++ rest) _ refl

  pub getD_flat : (n k j d : ℕ) → k < n → j < length (f k) → get_or (flat f n) (length (flat f k) + j) d ≡ get_or (f k) j d
  getD_flat n k j d l h =
      sym (get_or-drop (length (flat f k)) (flat f n) j d)
      ∙ ap (λ (x : List ℕ). get_or x j d) (drop_flat n k l)
      ∙ get_or_append_left (f k) _ d j h

  -- if b from `at k` on is list k and b from `at (k + 1)` on, then it is all lists and what is left
  pub drop_is_flat : (b : List ℕ) (at : ℕ → ℕ) (n : ℕ) → ((k : ℕ) → k < n → drop (at k) b ≡ f k ++ drop (at (k + 1)) b) →
      drop (at 0) b ≡ flat f n ++ drop (at n) b
  unfolding flat
  drop_is_flat b at zero each = refl
  drop_is_flat b at (suc n) each =
      drop_is_flat b at n (λ k l. each k (omega arith))
      ∙ ap (λ (x : List ℕ). flat f n ++ x) (rw (add-one n) at (each n (omega arith)))
      ∙ sym (append_assoc (flat f n) (f n) (drop (at (suc n)) b))

-- lists one after the other, list k at `g k`, with more behind them
module _ (f : ℕ → List ℕ) (g : ℕ → ℕ) (n : ℕ) (none : g 0 ≡ 0) (more : (k : ℕ) → k < n → g (k + 1) ≡ g k + length (f k)) (behind : List ℕ) where
  pub drop_flat_at : (k : ℕ) → k < n → (rest : List ℕ) × (drop (g k) (flat f n ++ behind) ≡ f k ++ rest)
  drop_flat_at k l =
      let len = length_flat f g k none (λ j h. more j (omega arith)) in
      let within : g k ≤ length (flat f n) = omega (arith, length_flat_mono f k n (omega arith)) in
      let after = drop (length (flat f (k + 1))) (flat f n) in (
        after ++ behind,
        (drop-append-le (g k) (flat f n) behind within
            ∙ ap (λ (x : List ℕ). x ++ behind) (rw len at (drop_flat f n k l))
            ∙ append_assoc (f k) after behind),
      )

  pub drop_flat_all : drop (g n) (flat f n ++ behind) ≡ behind
  drop_flat_all = drop_at (flat f n) behind (g n) (length_flat f g n none more)

pub flat_same : (f g : ℕ → List ℕ) (n : ℕ) → ((k : ℕ) → k < n → f k ≡ g k) → flat f n ≡ flat g n
unfolding flat
flat_same f g zero h = refl
flat_same f g (suc n) h = let before = flat_same f g n (λ k l. h k (omega arith)) in let here = h n (omega arith) in cc

-- the list to which place i belongs, where list k begins at `g k`
pub step_of : (g : ℕ → ℕ) (n i : ℕ) → g 0 ≡ 0 → i < g n → (k : ℕ) × (k < n) × (g k ≤ i) × (i < g (k + 1))
step_of g zero i none l = absurd (omega arith)
step_of g (suc n) i none l =
    ⊎_elim
    (λ (s : i < g n). let below = step_of g n i none s in (below.0, omega arith, below.2, below.3))
    (λ (s : g n ≤ i). (n, omega arith, s, rw (add-one n) l))
    (cases_lt i (g n))
