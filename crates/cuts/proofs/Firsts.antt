-- The first below a number that passes: which it is, that it lies below, and that it is settled by the tests.
use Rattle.std.proofs.Common.{◌≡◌, ℕ, zero, suc, ◌<◌, Bool, true, false, cond, Some, None, Option, refl, inl, inr, arith}
use Rattle.std.proofs.lemmas.Bool.{cases_eq}
use Rattle.layout.specs.Slices.{or_else}
use Rattle.cuts.specs.Cuts.{first_that}

pub first_that_none : (f : ℕ → Bool) (n : ℕ) → ((k : ℕ) → k < n → f k ≡ false) → first_that f n ≡ None
unfolding first_that
first_that_none f zero h = refl
first_that_none f (suc n) h = rw (first_that_none f n (λ k l. h k (omega arith)), h n (omega arith))

pub first_that_is : (f : ℕ → Bool) (n i : ℕ) → i < n → f i ≡ true → ((k : ℕ) → k < i → f k ≡ false) → first_that f n ≡ Some i
unfolding first_that
first_that_is f zero i l t h = absurd (omega arith)
first_that_is f (suc n) i l t h =
    elim (cases_eq i n) [
      | inl e ↦ let here : f n ≡ true = rw e at t in rw (first_that_none f n (λ k s. h k (omega arith)), here, e)
      | inr ne ↦ rw (first_that_is f n i (omega arith) t h)
    ]

pub first_that_below : (f : ℕ → Bool) (n i : ℕ) → first_that f n ≡ Some i → i < n
unfolding first_that
first_that_below f zero i e = let z : ◌≡◌ {A = ℕ} 0 1 = cc in absurd (omega arith)
first_that_below f (suc n) i e = below (first_that f n) (f n) (first_that_below f n i) e
  where
    below : (o : Option ℕ) (b : Bool) → (o ≡ Some i → i < n) → or_else o (cond b (Some n) None) ≡ Some i → i < suc n
    below None true h q = let z : n ≡ i = cc in omega arith
    below None false h q = let z : ◌≡◌ {A = ℕ} 0 1 = cc in absurd (omega arith)
    below (Some k) b h q = omega (arith, h q)

-- equal tests have the same first
pub first_that_same : (f g : ℕ → Bool) (n : ℕ) → ((k : ℕ) → k < n → f k ≡ g k) → first_that f n ≡ first_that g n
unfolding first_that
first_that_same f g zero h = refl
first_that_same f g (suc n) h =
    let before = first_that_same f g n (λ k l. h k (omega arith)) in let here = h n (omega arith) in cc
