-- What the tests for a repeat say: a lot that an earlier applicant has, an entry that stands earlier in its list, a number that a
-- list has twice.
use Rattle.std.proofs.Common.{◌≡◌, ℕ, zero, suc, ◌<◌, Bool, true, false, eqb, List, [], ◌∷◌, length, get_or, Decides, refl, arith}
use Rattle.std.proofs.lemmas.Bool.Decides.{nat_tests, Decides-eqb, Decides-below_or}
use Rattle.layout.specs.Tables.{has, no_repeat}
use Rattle.layout.specs.Bytes.{lot_in, lot_seen, entry_in, entry_seen}

pub false_from_decides : {P : Type 0} (r : Bool) → Decides r P → (P → ⊥) → r ≡ false
false_from_decides true d never = absurd (never (d.0 refl))
false_from_decides false d never = refl

pub lot_seen_decides : (b : List ℕ) (lot n : ℕ) → Decides (lot_seen b lot n) ((k : ℕ) × (k < n) × (lot_in b k ≡ lot))
unfolding lot_seen
lot_seen_decides b lot n =
    Decides-below_or (λ k. eqb (lot_in b k) lot) (λ k. lot_in b k ≡ lot) (lot_seen b lot) (λ k. Decides-eqb (lot_in b k) lot) refl (λ _. refl) n

pub entry_seen_decides : (b : List ℕ) (a w n : ℕ) → Decides (entry_seen b a w n) ((k : ℕ) × (k < n) × (entry_in b a k ≡ w))
unfolding entry_seen
entry_seen_decides b a w n =
    Decides-below_or (λ k. eqb (entry_in b a k) w) (λ k. entry_in b a k ≡ w) (entry_seen b a w) (λ k. Decides-eqb (entry_in b a k) w) refl
    (λ _. refl) n

-- x stands nowhere in the list
pub has_false : (x : ℕ) (xs : List ℕ) → has x xs ≡ false → (k : ℕ) → k < length xs → get_or xs k 0 ≡ x → ⊥
unfolding has
has_false x [] h k l e = omega arith
has_false x (y ∷ ys) h zero l e = grind (arith, nat_tests)
has_false x (y ∷ ys) h (suc k) l e = has_false x ys (grind (arith, nat_tests)) k (omega arith) e

pub false_has : (x : ℕ) (xs : List ℕ) → ((k : ℕ) → k < length xs → get_or xs k 0 ≡ x → ⊥) → has x xs ≡ false
unfolding has
false_has x [] h = refl
false_has x (y ∷ ys) h =
    let rest = false_has x ys (λ k l e. h (suc k) (omega arith) e) in
    let here : x ≡ y → ⊥ = λ e. h 0 (omega arith) (cc) in
    grind (arith, nat_tests)

-- no number stands at two places of the list
pub no_repeat_apart : (xs : List ℕ) → no_repeat xs ≡ true → (i j : ℕ) → i < j → j < length xs → get_or xs i 0 ≡ get_or xs j 0 → ⊥
unfolding no_repeat
no_repeat_apart [] h i j l s e = omega arith
no_repeat_apart (x ∷ xs) h i zero l s e = omega arith
no_repeat_apart (x ∷ xs) h zero (suc j) l s e = has_false x xs (grind arith) j (omega arith) (cc)
no_repeat_apart (x ∷ xs) h (suc i) (suc j) l s e = no_repeat_apart xs (grind arith) i j (omega arith) (omega arith) e

pub apart_no_repeat : (xs : List ℕ) → ((i j : ℕ) → i < j → j < length xs → get_or xs i 0 ≡ get_or xs j 0 → ⊥) → no_repeat xs ≡ true
unfolding no_repeat
apart_no_repeat [] h = refl
apart_no_repeat (x ∷ xs) h =
    let first = false_has x xs (λ k l e. h 0 (suc k) (omega arith) (omega arith) (cc)) in
    let rest = apart_no_repeat xs (λ i j l s e. h (suc i) (suc j) (omega arith) (omega arith) e) in
    grind arith
