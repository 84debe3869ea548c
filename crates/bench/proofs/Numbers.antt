-- How many of a list pass a test: laws of `number`, and of `has`, which asks whether somebody is among them.
use Rattle.std.proofs.Common.{◌≡◌, ℕ, ◌+◌, ◌<◌, ◌≤◌, Bool, true, false, cond, eqb, ltb, ◌⊎◌, List, [], ◌∷◌, ◌++◌, length, sum_by, sym, refl, ap, ◌∙◌, inl, inr, arith}
use Rattle.std.proofs.lemmas.Bool.{cases_Bool, cases_lt, lt-ltb, le-ltb, eq-eqb, or_cases, or_left, or_right, eqb-true, false≢true}
use Rattle.std.specs.List.Sorted.{IsPermutation}
use Rattle.std.proofs.lemmas.List.Sums.{sum_by-cons}
use Rattle.std.proofs.lemmas.List.Sorted.{sum_by-IsPermutation}
use Rattle.layout.specs.Tables.{has}
use Rattle.bench.specs.Best.{number}

pub has_here : (x : ℕ) (xs : List ℕ) → has x (x ∷ xs) ≡ true
unfolding has
has_here x xs = or_left _ _ (eq-eqb x x refl)

pub has_there : (x y : ℕ) (xs : List ℕ) → has x xs ≡ true → has x (y ∷ xs) ≡ true
unfolding has
has_there x y xs h = or_right (eqb x y) _ h

pub has_cases : (x y : ℕ) (xs : List ℕ) → has x (y ∷ xs) ≡ true → (x ≡ y) ⊎ (has x xs ≡ true)
unfolding has
has_cases x y xs h = elim (or_cases (eqb x y) (has x xs) h) [ inl k ↦ inl (eqb-true x y k) | inr k ↦ inr k ]

pub one_le : (b : Bool) → cond {A = ℕ} b 1 0 ≤ 1
one_le true = omega arith
one_le false = omega arith

pub number_le : (p : ℕ → Bool) (xs : List ℕ) → number p xs ≤ length xs
unfolding number
number_le p [] = omega arith
number_le p (x ∷ xs) = omega (arith, number_le p xs, one_le (p x))

pub number_append : (p : ℕ → Bool) (xs ys : List ℕ) → number p (xs ++ ys) ≡ number p xs + number p ys
unfolding number
number_append p [] ys = omega arith
number_append p (x ∷ xs) ys = omega (arith, number_append p xs ys)

-- somebody who does not pass is not counted
pub number_less : (p : ℕ → Bool) (x : ℕ) (xs : List ℕ) → has x xs ≡ true → p x ≡ false → number p xs < length xs
unfolding number has
number_less p x [] h e = absurd (false≢true h)
number_less p x (y ∷ ys) h e =
    elim (or_cases (eqb x y) (has x ys) h) [
      | inl k ↦ (let same : p y ≡ false = ap p (sym (eqb-true x y k)) ∙ e in rw same (omega (arith, number_le p ys)))
      | inr k ↦ omega (arith, number_less p x ys k e, one_le (p y))
    ]

pub number_none : (p : ℕ → Bool) (xs : List ℕ) → ((x : ℕ) → has x xs ≡ true → p x ≡ false) → number p xs ≡ 0
unfolding number has
number_none p [] fails = refl
number_none p (x ∷ xs) fails =
    let rest = number_none p xs (λ z k. fails z (or_right _ _ k)) in
    let here : p x ≡ false = fails x (or_left _ _ (eq-eqb x x refl)) in
    rw here (omega arith)

pub number_same : (p q : ℕ → Bool) (xs : List ℕ) → ((x : ℕ) → has x xs ≡ true → p x ≡ q x) → number p xs ≡ number q xs
unfolding number has
number_same p q [] same = refl
number_same p q (x ∷ xs) same =
    let rest = number_same p q xs (λ z k. same z (has_there z x xs k)) in
    let here = same x (has_here x xs) in
    cc

-- a test that passes where another does, and at some x of the list where the other does not, passes more often
module _ (p q : ℕ → Bool) (wider : (x : ℕ) → p x ≡ true → q x ≡ true) where
  one_mono : (x : ℕ) → cond {A = ℕ} (p x) 1 0 ≤ cond (q x) 1 0
  one_mono x = let h = wider x in grind (arith, cases_Bool (p x), cases_Bool (q x))

  pub number_mono : (xs : List ℕ) → number p xs ≤ number q xs
  unfolding number
  number_mono [] = omega arith
  number_mono (x ∷ xs) = omega (arith, number_mono xs, one_mono x)

  pub number_more : (x : ℕ) (xs : List ℕ) → has x xs ≡ true → p x ≡ false → q x ≡ true → number p xs < number q xs
  unfolding number has
  number_more x [] h e f = absurd (false≢true h)
  number_more x (y ∷ ys) h e f =
      elim (or_cases (eqb x y) (has x ys) h) [
        | inl k ↦
            (let sp : p y ≡ false = ap p (sym (eqb-true x y k)) ∙ e in
            let sq : q y ≡ true = ap q (sym (eqb-true x y k)) ∙ f in
            rw (sp, sq) (omega (arith, number_mono ys)))
        | inr k ↦ omega (arith, number_more x ys k e f, one_mono y)
      ]

-- and where it passes more often there is such an x
pub number_between : (p q : ℕ → Bool) (xs : List ℕ) → number p xs < number q xs → (x : ℕ) × (has x xs ≡ true) × (p x ≡ false) × (q x ≡ true)
unfolding number has
number_between p q [] h = absurd (omega arith)
number_between p q (x ∷ xs) h =
    elim (cases_lt (number p xs) (number q xs)) [
      | inl k ↦
          (let found : (z : ℕ) × (has z xs ≡ true) × (p z ≡ false) × (q z ≡ true) = number_between p q xs k in
          (found.0, or_right _ _ found.1, found.2, found.3))
      | inr k ↦
          (let no_p : p x ≡ false = grind (arith, cases_Bool (p x), cases_Bool (q x)) in
          let on_q : q x ≡ true = grind (arith, cases_Bool (p x), cases_Bool (q x)) in
          (x, or_left _ _ (eq-eqb x x refl), no_p, on_q))
    ]

pub has_number : (x : ℕ) (xs : List ℕ) → 0 < number (eqb x) xs → has x xs ≡ true
unfolding number has
has_number x [] h = absurd (omega arith)
has_number x (y ∷ ys) h =
    elim (cases_Bool (eqb x y)) [
      | inl k ↦ or_left _ _ k
      | inr k ↦ or_right _ _ (has_number x ys (omega (arith, rw k at h)))
    ]

pub number_has : (x : ℕ) (xs : List ℕ) → has x xs ≡ true → 0 < number (eqb x) xs
unfolding number has
number_has x [] h = absurd (false≢true h)
number_has x (y ∷ ys) h =
    elim (or_cases (eqb x y) (has x ys) h) [
      | inl k ↦ rw k (omega arith)
      | inr k ↦ omega (arith, number_has x ys k)
    ]

pub has_is : (x : ℕ) (xs : List ℕ) → has x xs ≡ ltb 0 (number (eqb x) xs)
has_is x xs =
    elim (cases_lt 0 (number (eqb x) xs)) [
      | inl k ↦ has_number x xs k ∙ sym (lt-ltb 0 (number (eqb x) xs) k)
      | inr k ↦ (elim (cases_Bool (has x xs)) [ inl h ↦ absurd (omega (arith, number_has x xs h)) | inr h ↦ h ∙ sym (le-ltb 0 (number (eqb x) xs) k) ])
    ]

-- lists with the same numbers, whatever the test, have the same members
pub has_same : (xs ys : List ℕ) → ((p : ℕ → Bool) → number p xs ≡ number p ys) → (x : ℕ) → has x xs ≡ true → has x ys ≡ true
has_same xs ys same x h = has_number x ys (omega (arith, number_has x xs h, same (eqb x)))

pub has_right : (x : ℕ) (xs ys : List ℕ) → has x ys ≡ true → has x (xs ++ ys) ≡ true
has_right x xs ys h = has_number x (xs ++ ys) (omega (arith, number_has x ys h, number_append (eqb x) xs ys))

-- one from the middle to the front, one from the end to the front
pub number_middle : (p : ℕ → Bool) (x : ℕ) (xs ys : List ℕ) → number p (xs ++ x ∷ ys) ≡ number p (x ∷ (xs ++ ys))
unfolding number
number_middle p x xs ys = omega (arith, number_append p xs (x ∷ ys), number_append p xs ys)

-- a shuffled list has the same numbers
number_sum : (p : ℕ → Bool) (xs : List ℕ) → number p xs ≡ sum_by (λ x. cond (p x) 1 0) xs
unfolding number
number_sum p [] = refl
number_sum p (x ∷ xs) = omega (arith, number_sum p xs, sum_by-cons (λ z. cond {A = ℕ} (p z) 1 0) x xs)

pub number_shuffled : (xs ys : List ℕ) → IsPermutation xs ys → (p : ℕ → Bool) → number p xs ≡ number p ys
number_shuffled xs ys h p = number_sum p xs ∙ sym (sum_by-IsPermutation (λ x. cond {A = ℕ} (p x) 1 0) xs ys h) ∙ sym (number_sum p ys)
