-- The given steps come to an end, whatever the lists and points: each step that moves anybody adds to the sum of positions, and
-- that sum never passes the number of entries.
use Rattle.std.proofs.Common.{◌≡◌, ℕ, zero, suc, ◌+◌, ◌<◌, ◌≤◌, true, ◌⊎◌, List, [], ◌∷◌, length, get_or, refl, ap, ◌∙◌, inl, inr, add-zero, arith}
use lib.ListN.{length-replicate, get_or-replicate, get_or-eq_default}
use Rattle.std.proofs.lemmas.Bool.Decides.{nat_tests}
use Rattle.std.proofs.lemmas.Bool.{cases_lt}
use Rattle.round.specs.Places.{Round, nowhere, asked, refused, on, step, steps, total, pick}
use Rattle.round.specs.Promise.{Ends}

-- the sum of a list
sum_of : List ℕ → ℕ
sum_of [] = 0
sum_of (k ∷ ks) = k + sum_of ks

-- positions within the lists add up to at most the entries
sum_within : (at : List ℕ) (ls : List (List ℕ)) → ((a : ℕ) → get_or at a 0 ≤ length (get_or ls a [])) → sum_of at ≤ total ls
unfolding sum_of total
sum_within [] ls h = omega arith
sum_within (k ∷ ks) [] h = let first = h 0 in let ih = sum_within ks [] (λ a. h (suc a)) in omega arith
sum_within (k ∷ ks) (l ∷ ls) h = let first = h 0 in let ih = sum_within ks ls (λ a. h (suc a)) in omega arith

-- one step moves nobody, or adds to the sum
on_grows : (r : Round) (at : List ℕ) (n : ℕ) (ks : List ℕ) → (on r at n ks ≡ ks) ⊎ (sum_of ks < sum_of (on r at n ks))
unfolding on sum_of
on_grows r at n [] = inl refl
on_grows r at n (k ∷ ks) = let ih = on_grows r at (suc n) ks in grind arith

-- what stands at a place after one step
pub getD_on : (r : Round) (at : List ℕ) (n : ℕ) (ks : List ℕ) (i : ℕ) → i < length ks → get_or (on r at n ks) i 0 ≡ pick (refused r at (n + i)) (get_or ks i 0 + 1) (get_or ks i 0)
unfolding on
getD_on r at n [] i h = absurd (omega arith)
getD_on r at n (k ∷ ks) zero h = rw add-zero refl
getD_on r at n (k ∷ ks) (suc i) h = let e : n + suc i ≡ suc n + i = omega arith in rw e (getD_on r at (suc n) ks i (omega arith))

pub length_on : (r : Round) (at : List ℕ) (n : ℕ) (ks : List ℕ) → length (on r at n ks) ≡ length ks
unfolding on
length_on r at n [] = refl
length_on r at n (k ∷ ks) = ap suc (length_on r at (suc n) ks)

module _ (r : Round) where
  pub length_steps : (t : ℕ) → length (steps r t) ≡ length r.lists
  unfolding steps step
  length_steps zero = length-replicate _ 0
  length_steps (suc t) = length_on r (steps r t) 0 (steps r t) ∙ length_steps t

  -- nobody has moved at the start
  pub getD_steps_none : (a : ℕ) → get_or (steps r 0) a 0 ≡ 0
  unfolding steps
  getD_steps_none a =
      elim (cases_lt a (length r.lists)) [
        | inl l ↦ get_or-replicate _ a 0 0 l
        | inr l ↦ get_or-eq_default (steps r 0) 0 (let e = length_steps 0 in omega arith)
      ]

  -- and then whoever is turned down moves on by one
  pub getD_steps_more : (t a : ℕ) → a < length r.lists → get_or (steps r (suc t)) a 0 ≡ pick (refused r (steps r t) a) (get_or (steps r t) a 0 + 1) (get_or (steps r t) a 0)
  unfolding steps step
  getD_steps_more t a h =
      let e : 0 + a ≡ a = omega arith in
      rw e at (getD_on r (steps r t) 0 (steps r t) a (let l = length_steps t in omega arith))

  -- whoever is turned down still had an entry to ask
  pub refused_within : (at : List ℕ) (a : ℕ) → refused r at a ≡ true → get_or at a 0 < length (get_or r.lists a [])
  unfolding refused asked
  refused_within at a h =
      elim (cases_lt (get_or at a 0) (length (get_or r.lists a []))) [
        | inl l ↦ l
        | inr l ↦ let e = get_or-eq_default (get_or r.lists a []) (nowhere r) l in absurd (grind (arith, nat_tests))
      ]

  -- so positions stay within the lists
  pub steps_within : (t a : ℕ) → get_or (steps r t) a 0 ≤ length (get_or r.lists a [])
  steps_within zero a = let e = getD_steps_none a in omega arith
  steps_within (suc t) a =
      elim (cases_lt a (length r.lists)) [
        | inl l ↦
            let ih = steps_within t a in
            let e = getD_steps_more t a l in
            let h = refused_within (steps r t) a in
            grind arith
        | inr l ↦ let e = get_or-eq_default (steps r (suc t)) 0 {n = a} (let n = length_steps (suc t) in omega arith) in omega arith
      ]

  -- nobody moves at t, or the sum of positions is t at least
  ends_or_grows : (t : ℕ) → (step r (steps r t) ≡ steps r t) ⊎ (t ≤ sum_of (steps r t))
  unfolding steps step
  ends_or_grows zero = inr (omega arith)
  ends_or_grows (suc t) =
      elim (ends_or_grows t) [
        | inl e ↦ inl (ap {B = List ℕ} (λ (at : List ℕ). on r at 0 at) e)
        | inr g ↦
            elim (on_grows r (steps r t) 0 (steps r t))
            [ inl e ↦ inl (ap {B = List ℕ} (λ (at : List ℕ). on r at 0 at) e) | inr g' ↦ inr (omega arith) ]
      ]

-- after as many steps as there are entries nobody moves
pub ends : Ends
unfolding Ends steps step
ends r =
    elim (ends_or_grows r (total r.lists)) [
      | inl e ↦ e
      | inr g ↦
          elim (on_grows r (steps r (total r.lists)) 0 (steps r (total r.lists))) [
            | inl e ↦ e
            | inr g' ↦
                let few = sum_within (steps r (suc (total r.lists))) r.lists (steps_within r (suc (total r.lists))) in
                absurd (omega arith)
          ]
    ]
