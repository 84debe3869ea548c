-- Counting and sums below a number: monotone, pointwise, split by a second set, double counting; then whether any passes a
-- test, and the greatest and the least that pass.
use Rattle.std.proofs.Common.{◌≡◌, ℕ, zero, suc, ◌+◌, ◌<◌, ◌≤◌, Bool, true, false, cond, not, ◌&&◌, ◌||◌, ◌≢◌, ◌⊎◌, sym, refl, ◌∙◌, inl, inr, ⊎_elim, le_trans, arith}
use Rattle.std.proofs.lemmas.Bool.{cases_lt, cases_eq, cases_Bool, false≢true}
use Rattle.round.specs.Market.{count, sum}

module _ (f g : ℕ → Bool) where
  -- fewer pass, fewer are counted
  pub count_mono : (n : ℕ) → ((a : ℕ) → a < n → f a ≡ true → g a ≡ true) → count f n ≤ count g n
  unfolding count
  count_mono zero h = omega arith
  count_mono (suc n) h =
      let ih = count_mono n (λ a l. h a (omega arith)) in
      let last = h n in
      grind arith

  pub count_same : (n : ℕ) → ((a : ℕ) → a < n → f a ≡ g a) → count f n ≡ count g n
  unfolding count
  count_same zero h = refl
  count_same (suc n) h =
      let ih = count_same n (λ a l. h a (omega arith)) in
      let last = h n (omega arith) in
      grind arith

  -- all but one of f are of g
  pub count_but_one : (n b : ℕ) → ((a : ℕ) → a < n → a ≢ b → f a ≡ true → g a ≡ true) → count f n ≤ 1 + count g n
  unfolding count
  count_but_one zero b h = omega arith
  count_but_one (suc n) b h =
      elim (cases_eq n b) [
        | inl e ↦ let less = count_mono n (λ a l. h a (omega arith) (omega arith)) in grind arith
        | inr ne ↦
            let ih = count_but_one n b (λ a l. h a (omega arith)) in
            let last = h n (omega arith) ne in
            grind arith
      ]

  -- a set in another that lacks one of its members has fewer
  pub count_less : (n : ℕ) → ((a : ℕ) → a < n → f a ≡ true → g a ≡ true) → (a : ℕ) → a < n → g a ≡ true → f a ≡ false → count f n < count g n
  unfolding count
  count_less zero h a l t e = absurd (omega arith)
  count_less (suc n) h a l t e =
      let last = h n (omega arith) in
      elim (cases_eq a n) [
        | inl i ↦
            let less = count_mono n (λ b lb. h b (omega arith)) in
            let t' : g n ≡ true = cc in
            let e' : f n ≡ false = cc in
            grind arith
        | inr ne ↦ let ih = count_less n (λ b lb. h b (omega arith)) a (omega arith) t e in grind arith
      ]

  -- a set in another with as many members is all of it
  pub count_all : (n : ℕ) → ((a : ℕ) → a < n → f a ≡ true → g a ≡ true) → count g n ≤ count f n → (a : ℕ) → a < n → g a ≡ true → f a ≡ true
  count_all n h le a l t =
      elim (cases_Bool (f a)) [ inl e ↦ e | inr e ↦ let less = count_less n h a l t e in absurd (omega arith) ]

  -- the sum of two disjoint sets
  pub count_or : (n : ℕ) → ((a : ℕ) → a < n → f a ≡ true → g a ≡ true → ⊥) → count (λ a. f a || g a) n ≡ count f n + count g n
  unfolding count
  count_or zero h = refl
  count_or (suc n) h =
      let ih = count_or n (λ a l. h a (omega arith)) in
      let last = h n (omega arith) in
      grind arith

  -- those of f that are of g, and those that are not
  pub count_split : (n : ℕ) → count f n ≡ count (λ a. f a && g a) n + count (λ a. f a && not (g a)) n
  unfolding count
  count_split zero = refl
  count_split (suc n) = let ih = count_split n in grind arith

pub count_none : (f : ℕ → Bool) (n : ℕ) → ((a : ℕ) → a < n → f a ≡ false) → count f n ≡ 0
unfolding count
count_none f zero h = refl
count_none f (suc n) h =
    let ih = count_none f n (λ a l. h a (omega arith)) in
    let last = h n (omega arith) in
    grind arith

pub count_bound : (f : ℕ → Bool) (n : ℕ) → count f n ≤ n
unfolding count
count_bound f zero = omega arith
count_bound f (suc n) = let ih = count_bound f n in grind arith

pub count_pos : (f : ℕ → Bool) (n a : ℕ) → a < n → f a ≡ true → 0 < count f n
count_pos f n a l t = let less = count_less (λ _. false) f n (λ b _ e. absurd (false≢true e)) a l t refl in omega arith

-- just one passes
pub count_one : (f : ℕ → Bool) (n a : ℕ) → a < n → f a ≡ true → ((b : ℕ) → b < n → f b ≡ true → b ≡ a) → count f n ≡ 1
count_one f n a l t h =
    let more = count_pos f n a l t in
    let fewer = count_but_one f (λ _. false) n a (λ b lb ne e. absurd (ne (h b lb e))) in
    let none = count_none (λ _. false) n (λ _ _. refl) in
    omega arith

module _ (f g : ℕ → ℕ) where
  pub sum_mono : (n : ℕ) → ((a : ℕ) → a < n → f a ≤ g a) → sum f n ≤ sum g n
  unfolding sum
  sum_mono zero h = omega arith
  sum_mono (suc n) h =
      let ih = sum_mono n (λ a l. h a (omega arith)) in
      let last = h n (omega arith) in
      omega arith

  pub sum_same : (n : ℕ) → ((a : ℕ) → a < n → f a ≡ g a) → sum f n ≡ sum g n
  unfolding sum
  sum_same zero h = refl
  sum_same (suc n) h =
      let ih = sum_same n (λ a l. h a (omega arith)) in
      let last = h n (omega arith) in
      omega arith

  -- nowhere more, and somewhere less
  pub sum_less : (n : ℕ) → ((a : ℕ) → a < n → f a ≤ g a) → (a : ℕ) → a < n → f a < g a → sum f n < sum g n
  unfolding sum
  sum_less zero h a l t = absurd (omega arith)
  sum_less (suc n) h a l t =
      let last = h n (omega arith) in
      elim (cases_eq a n) [
        | inl i ↦
            let less = sum_mono n (λ b lb. h b (omega arith)) in
            let t' : f n < g n = rw i at t in
            omega arith
        | inr ne ↦ let ih = sum_less n (λ b lb. h b (omega arith)) a (omega arith) t in omega arith
      ]

  -- nowhere more, and in all not less: everywhere the same
  pub sum_each : (n : ℕ) → ((a : ℕ) → a < n → f a ≤ g a) → sum g n ≤ sum f n → (a : ℕ) → a < n → f a ≡ g a
  sum_each n h le a l =
      elim (cases_lt (f a) (g a))
      [ inl t ↦ let less = sum_less n h a l t in absurd (omega arith) | inr t ↦ let more = h a l in omega arith ]

  pub sum_add : (n : ℕ) → sum (λ a. f a + g a) n ≡ sum f n + sum g n
  unfolding sum
  sum_add zero = refl
  sum_add (suc n) = let ih = sum_add n in omega arith

pub sum_none : (n : ℕ) → sum (λ _. 0) n ≡ 0
unfolding sum
sum_none zero = refl
sum_none (suc n) = let ih = sum_none n in omega arith

pub sum_tests : (f : ℕ → Bool) (n : ℕ) → sum (λ a. cond (f a) 1 0) n ≡ count f n
unfolding sum count
sum_tests f zero = refl
sum_tests f (suc n) = let ih = sum_tests f n in omega arith

-- double counting: by rows and by columns
pub sum_count : (F : ℕ → ℕ → Bool) (m n : ℕ) → sum (λ p. count (F p) n) m ≡ sum (λ a. count (λ p. F p a) m) n
unfolding sum count
sum_count F m zero = sum_none m
sum_count F m (suc n) =
    let ih = sum_count F m n in
    let one = sum_add (λ p. cond (F p n) 1 0) (λ p. count (F p) n) m in
    let col = sum_tests (λ p. F p n) m in
    omega arith

-- where each that passes g stands in one row, and no other in any, the rows have as many as pass g
pub sum_rows : (F : ℕ → ℕ → Bool) (g : ℕ → Bool) (m n : ℕ) → ((a : ℕ) → a < n → count (λ p. F p a) m ≡ cond (g a) 1 0) → sum (λ p. count (F p) n) m ≡ count g n
sum_rows F g m n h = sum_count F m n ∙ sum_same _ _ n h ∙ sum_tests g n

-- what holds below n, and of n, holds below n + 1
pub below_suc : (P : ℕ → Type 0) (n : ℕ) → ((a : ℕ) → a < n → P a) → P n → (a : ℕ) → a < suc n → P a
below_suc P n h last a l = elim (cases_eq a n) [ inl i ↦ rw i last | inr ne ↦ h a (omega arith) ]

-- somebody passes, or nobody
pub find : (f : ℕ → Bool) (n : ℕ) → ((a : ℕ) × (a < n) × (f a ≡ true)) ⊎ ((a : ℕ) → a < n → f a ≡ false)
find f zero = inr (λ a l. absurd (omega arith))
find f (suc n) =
    elim (cases_Bool (f n)) [
      | inl t ↦ inl (n, omega arith, t)
      | inr e ↦ elim (find f n) [ inl s ↦ inl (s.0, omega arith, s.2) | inr h ↦ inr (below_suc _ n h e) ]
    ]

le_total : (x y : ℕ) → (x ≤ y) ⊎ (y ≤ x)
le_total x y = elim (cases_lt x y) [ inl l ↦ inl (omega arith) | inr l ↦ inr l ]

-- one of those that pass that comes after all others by R, or nobody passes
abbrev pub Optimum : (ℕ → Bool) → (ℕ → ℕ → Type 0) → ℕ → Type 0
Optimum f R n = ((a : ℕ) × (a < n) × (f a ≡ true) × ((b : ℕ) → b < n → f b ≡ true → R b a)) ⊎ ((a : ℕ) → a < n → f a ≡ false)

module _ (f : ℕ → Bool) (R : ℕ → ℕ → Type 0) (total : (a b : ℕ) → R a b ⊎ R b a) (trans : (a b c : ℕ) → R a b → R b c → R a c) where
  pub optimum : (n : ℕ) → Optimum f R n
  optimum zero = inr (λ a l. absurd (omega arith))
  optimum (suc n) =
      elim (cases_Bool (f n)) [
        | inr e ↦
            elim (optimum n) [
              | inl s ↦ inl (s.0, omega arith, s.2, below_suc _ n s.3 (λ t. absurd (false≢true (sym e ∙ t))))
              | inr h ↦ inr (below_suc _ n h e)
            ]
        | inl t ↦
            let self = ⊎_elim (λ (r : R n n). r) (λ (r : R n n). r) (total n n) in
            elim (optimum n) [
              | inr h ↦ inl (n, omega arith, t, below_suc _ n (λ b l u. absurd (false≢true (sym (h b l) ∙ u))) (λ _. self))
              | inl s ↦
                  elim (total s.0 n) [
                    | inl r ↦ inl (n, omega arith, t, below_suc _ n (λ b l u. trans b s.0 n (s.3 b l u) r) (λ _. self))
                    | inr r ↦ inl (s.0, omega arith, s.2, below_suc _ n s.3 (λ _. r))
                  ]
            ]
      ]

-- one with the greatest measure of those that pass, or nobody passes
pub best : (f : ℕ → Bool) (v : ℕ → ℕ) (n : ℕ) → Optimum f (λ b a. v b ≤ v a) n
best f v n = optimum f (λ b a. v b ≤ v a) (λ a b. le_total (v a) (v b)) (λ a b c h i. le_trans h i) n

-- one with the least measure of those that pass, or nobody passes
pub least : (f : ℕ → Bool) (v : ℕ → ℕ) (n : ℕ) → Optimum f (λ b a. v a ≤ v b) n
least f v n = optimum f (λ b a. v a ≤ v b) (λ a b. le_total (v b) (v a)) (λ a b c h i. le_trans i h) n
