-- Steps of reading a letter: what an outcome says of a fault, the first of several faults, and one entry more.
use Rattle.std.proofs.Common.{◌≡◌, ℕ, ◌+◌, ◌<◌, ◌≤◌, Bool, true, false, cond, not, eqb, List, length, get_or, set, Some, None, Ok, Err, Option, Result, unwrap_or, refl, inl, inr, add-one, arith}
use Rattle.std.specs.Option.{MatchOption, option_eq, option_or}
use Rattle.std.specs.Bool.{then_some}
use Rattle.std.proofs.lemmas.List.{get_or-set_same, get_or-set_other}
use Rattle.std.proofs.lemmas.Bool.{cases_eq}
use Rattle.std.proofs.lemmas.Bool.Decides.{nat_tests}
use Rattle.layout.specs.Slices.{outcome, or_else}
use Rattle.layout.specs.Bytes.{byte, refuse}
use Rattle.layout.specs.Tables.{most_entries}
use Rattle.layout.specs.declared.Refusal.{Refusal}
use Rattle.layout.specs.declared.Refusal.TheVariants.{NotFirst}
use Rattle.letters.specs.Letter.{count_in, place_at, place_told, entry_at}
use Rattle.letters.specs.Faults.{workshop_seen, reached_in, first_in, place_fault}
use Rattle.cuts.proofs.Firsts.{first_that_below}
use Rattle.cuts.specs.Cuts.{first_that, position}

-- what an outcome says of the fault
pub none_from_ok : {T E : Type 0} (f : Option E) (v w : T) → Ok w ≡ outcome f v → (f ≡ None) × (w ≡ v)
none_from_ok None v w e = (refl, cc)
none_from_ok (Some x) v w e = absurd (cc)

pub some_from_err : {T E : Type 0} (f : Option E) (v : T) (x : E) → Err x ≡ outcome f v → f ≡ Some x
some_from_err None v x e = absurd (cc)
some_from_err (Some y) v x e = cc

-- and back
pub err_from_some : {T E : Type 0} (f : Option E) (v : T) (x : E) → f ≡ Some x → Err x ≡ outcome f v
err_from_some None v x e = absurd (cc)
err_from_some (Some y) v x e = cc

-- the first of four faults, in the order in which a letter is judged
module _ {T : Type 0} (f g h k : Option Refusal) (v : T) where
  abbrev pub InTurn : Result T Refusal
  InTurn = outcome (or_else (or_else f (or_else g h)) k) v

  pub fault_at_1 : (x : Refusal) → f ≡ Some x → Err x ≡ InTurn
  fault_at_1 x p = simp p

  pub fault_at_2 : (x : Refusal) → f ≡ None → g ≡ Some x → Err x ≡ InTurn
  fault_at_2 x p q = simp (p, q)

  pub fault_at_3 : (x : Refusal) → f ≡ None → g ≡ None → h ≡ Some x → Err x ≡ InTurn
  fault_at_3 x p q r = simp (p, q, r)

  pub fault_at_4 : (x : Refusal) → f ≡ None → g ≡ None → h ≡ None → k ≡ Some x → Err x ≡ InTurn
  fault_at_4 x p q r s = simp (p, q, r, s)

  pub no_fault : f ≡ None → g ≡ None → h ≡ None → k ≡ None → Ok v ≡ InTurn
  no_fault p q r s = simp (p, q, r, s)

-- one position more
pub first_that_more : (f : ℕ → Bool) (j : ℕ) → first_that f (j + 1) ≡ option_or (first_that f j) (then_some (f j) j)
unfolding first_that
first_that_more f j = rw (add-one j) (step (first_that f j) (f j))
  where
    step : (o : Option ℕ) (b : Bool) → or_else o (cond b (Some j) None) ≡ option_or o (then_some b j)
    step None true = refl
    step None false = refl
    step (Some i) b = refl

-- what is there, and otherwise what is looked for
pub or_else_is : {A : Type 0} (o r v : Option A) (P : Type 0) → MatchOption o P (λ x. r ≡ Some x) → (P → r ≡ v) → r ≡ option_or o v
or_else_is None r v P found looked = looked found
or_else_is (Some x) r v P found looked = found

-- a place is the first that is reached as a number exactly if it is as a position: 255 is no position
position_of_first : (o : Option ℕ) → unwrap_or o 255 ≡ position o
position_of_first None = refl
position_of_first (Some i) = refl

same_place : (p : ℕ) (o : Option ℕ) → ((i : ℕ) → o ≡ Some i → i < 255) → option_eq eqb (place_told p) o ≡ eqb p (position o)
same_place p None below = elim (eqb p 255) as (λ t. option_eq eqb (cond t None (Some p)) None ≡ t) [ true ↦ refl | false ↦ refl ]
same_place p (Some i) below = let l = below i refl in grind (arith, nat_tests)

pub place_fault_is : (b : List ℕ) → count_in b ≤ most_entries → (place first : Option ℕ) (other : Bool) (n : ℕ) →
    place ≡ place_told (byte b (place_at b)) → first ≡ first_that (reached_in b) (count_in b) → other ≡ not (option_eq eqb place first) → n ≡ unwrap_or first 255 →
    place_fault b ≡ refuse other (NotFirst n)
unfolding first_in
place_fault_is b few place first other n p f t m =
    let below : (i : ℕ) → first_that (reached_in b) (count_in b) ≡ Some i → i < 255 =
    λ i e. let l = first_that_below (reached_in b) (count_in b) i e in omega arith
    in
    let same = same_place (byte b (place_at b)) (first_that (reached_in b) (count_in b)) below in
    let told = position_of_first (first_that (reached_in b) (count_in b)) in
    cc

-- one workshop more is marked
pub seen_more : (b : List ℕ) (seen : List Bool) (j w : ℕ) → length seen ≡ 256 → w ≡ byte b (entry_at j) → w < 256 →
    ((v : ℕ) → v < 256 → get_or seen v false ≡ workshop_seen b v j) → (v : ℕ) → v < 256 → get_or (set seen w true) v false ≡ workshop_seen b v (j + 1)
unfolding workshop_seen
seen_more b seen j w len e small marked v h =
    rw (add-one j)
    (elim (cases_eq v w) [
      | inl q ↦ let k = get_or-set_same seen w true false (omega arith) in let l = marked v h in grind (arith, nat_tests)
      | inr q ↦ let k = get_or-set_other seen w v true false q in let l = marked v h in grind (arith, nat_tests)
    ])
