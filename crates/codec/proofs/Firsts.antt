-- What the answers of readers say: of the bytes, of the faults they were made from, and of a loop that ends at the first fault.
use Rattle.std.proofs.Common.{◌≡◌, ℕ, ◌+◌, ◌<◌, ◌≤◌, List, length, Some, None, Ok, Err, Option, Result, refl, arith}
use Rattle.std.proofs.lemmas.Bool.Decides.{nat_tests}
use Rattle.layout.specs.Slices.{outcome}
use Rattle.layout.specs.Bytes.{first_of}
use Rattle.layout.specs.declared.Refusal.{Refusal}
use Rattle.layout.proofs.Firsts.{first_of_at}
use Rattle.codec.specs.Readers.{there}

pub got_there : (b : List ℕ) (at k v x : ℕ) → Some x ≡ there b at k v → (at + k ≤ length b) × (x ≡ v)
got_there b at k v x h = grind (arith, nat_tests)

pub not_there : (b : List ℕ) (at k v : ℕ) → None ≡ there b at k v → length b < at + k
not_there b at k v h = grind (arith, nat_tests)

module _ {T : Type 0} where
  pub fault_from_err : (o : Option Refusal) (v : T) (e : Refusal) → ◌≡◌ {A = Result T Refusal} (Err e) (outcome o v) → o ≡ Some e
  fault_from_err (Some x) v e h = grind arith
  fault_from_err None v e h = grind arith

  pub none_from_ok : (o : Option Refusal) (v x : T) → ◌≡◌ {A = Result T Refusal} (Ok x) (outcome o v) → (o ≡ None) × (v ≡ x)
  none_from_ok (Some y) v x h = grind arith
  none_from_ok None v x h = grind arith

  -- a fault after none is the answer for all
  pub refused_at : (f : ℕ → Option Refusal) (v : T) (e : Refusal) (i n : ℕ) → first_of f i ≡ None → f i ≡ Some e → i < n →
      ◌≡◌ {A = Result T Refusal} (Err e) (outcome (first_of f n) v)
  refused_at f v e i n h g l = let s = first_of_at f n i e h g l in rw s

pub first_of_zero : (f : ℕ → Option Refusal) → first_of f 0 ≡ None
unfolding first_of
first_of_zero f = refl
