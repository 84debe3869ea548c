-- Laws of the first fault: of `or_else`, `refuse` and `missing`, and then of `first_of`. A lemma that ends in `-none` takes no
-- fault apart; one that begins with `none-` puts it together.
use Rattle.std.proofs.Common.{◌≡◌, ℕ, zero, suc, ◌+◌, ◌<◌, ◌≤◌, Bool, true, false, List, length, Some, None, Option, refl, ◌∙◌, ⊎_elim, add-one, arith}
use Rattle.std.proofs.lemmas.Bool.{ltb-false, lt-ltb, le-ltb, cases_lt, cases_eq}
use Rattle.layout.specs.Slices.{or_else}
use Rattle.layout.specs.Bytes.{first_of, refuse, missing}
use Rattle.layout.specs.declared.Refusal.{Refusal}
use Rattle.layout.specs.declared.Refusal.TheVariants.{Short}

-- a fault is not no fault
pub some_is_not_none : {E : Type 0} (e : E) → Some e ≡ None → ⊥
some_is_not_none e h = let z : ◌≡◌ {A = ℕ} 0 1 = cc in omega arith

pub or_else_none : {E : Type 0} (f g : Option E) → or_else f g ≡ None → (f ≡ None) × (g ≡ None)
or_else_none None g h = (refl, h)
or_else_none (Some e) g h = absurd (some_is_not_none e h)

pub none_or_else : {E : Type 0} (f g : Option E) → f ≡ None → g ≡ None → or_else f g ≡ None
none_or_else f g h k = rw h k

-- past what is no fault
pub or_else_past : {E : Type 0} (f g : Option E) → f ≡ None → or_else f g ≡ g
or_else_past f g h = rw h

-- the first fault is the fault
pub or_else_some : {E : Type 0} (f g : Option E) (e : E) → f ≡ Some e → or_else f g ≡ Some e
or_else_some f g e h = rw h

pub refuse_none : (t : Bool) (e : Refusal) → refuse t e ≡ None → t ≡ false
refuse_none true e h = absurd (some_is_not_none e h)
refuse_none false e h = refl

pub none_refuse : (t : Bool) (e : Refusal) → t ≡ false → refuse t e ≡ None
none_refuse t e h = rw h

pub some_refuse : (t : Bool) (e : Refusal) → t ≡ true → refuse t e ≡ Some e
some_refuse t e h = rw h

pub missing_none : (b : List ℕ) (at k : ℕ) → missing b at k ≡ None → at + k ≤ length b
missing_none b at k h = ltb-false (length b) (at + k) (refuse_none _ _ h)

pub none_missing : (b : List ℕ) (at k : ℕ) → at + k ≤ length b → missing b at k ≡ None
none_missing b at k h = none_refuse _ _ (le-ltb (length b) (at + k) h)

pub some_missing : (b : List ℕ) (at k : ℕ) → length b < at + k → missing b at k ≡ Some (Short (length b))
some_missing b at k h = some_refuse _ _ (lt-ltb (length b) (at + k) h)

module _ (f : ℕ → Option Refusal) where
  pub first_of_none : (n : ℕ) → first_of f n ≡ None → (k : ℕ) → k < n → f k ≡ None
  unfolding first_of
  first_of_none zero h k l = absurd (omega arith)
  first_of_none (suc n) h k l =
      let parts = or_else_none (first_of f n) (f n) h in
      ⊎_elim (λ (e : k ≡ n). rw e parts.1) (λ (ne : k ≡ n → ⊥). first_of_none n parts.0 k (omega arith)) (cases_eq k n)

  pub none_first_of : (n : ℕ) → ((k : ℕ) → k < n → f k ≡ None) → first_of f n ≡ None
  unfolding first_of
  none_first_of zero h = refl
  none_first_of (suc n) h = none_or_else (first_of f n) (f n) (none_first_of n (λ k l. h k (omega arith))) (h n (omega arith))

  -- one more that is no fault
  pub first_of_more : (n : ℕ) → first_of f n ≡ None → f n ≡ None → first_of f (n + 1) ≡ None
  unfolding first_of
  first_of_more n h k = rw (add-one n) (none_or_else (first_of f n) (f n) h k)

  -- what is first among some is first among more
  pub first_of_stays : (k n : ℕ) (e : Refusal) → k ≤ n → first_of f k ≡ Some e → first_of f n ≡ Some e
  unfolding first_of
  first_of_stays k zero e l h = let k_is : k ≡ 0 = omega arith in rw k_is at h
  first_of_stays k (suc n) e l h =
      ⊎_elim
      (λ (s : k < suc n). or_else_some (first_of f n) (f n) e (first_of_stays k n e (omega arith) h))
      (λ (s : suc n ≤ k). let k_is : k ≡ suc n = omega arith in rw k_is at h)
      (cases_lt k (suc n))

  -- no fault below k, and e at k
  pub first_of_at : (n k : ℕ) (e : Refusal) → first_of f k ≡ None → f k ≡ Some e → k < n → first_of f n ≡ Some e
  unfolding first_of
  first_of_at n k e none here l = first_of_stays (suc k) n e l (or_else_past (first_of f k) (f k) none ∙ here)
