-- Lists and ranks: what stands at a programme's rank, the rank of what stands at a position; the lists of a proper round are
-- lawful, and so is its market.
use Rattle.std.proofs.Common.{◌≡◌, ℕ, zero, suc, ◌<◌, ◌≤◌, List, [], ◌∷◌, length, get_or, ap, ◌∙◌, inl, inr, arith}
use lib.ListN.{get_or-eq_default}
use Rattle.std.proofs.lemmas.Bool.Decides.{nat_tests}
use Rattle.std.proofs.lemmas.Bool.{cases_lt}
use Rattle.std.proofs.lemmas.List.{get_or_default}
use Rattle.round.specs.Places.{Round}
use Rattle.round.specs.Promise.{Distinct, Proper, rank}
use Rattle.round.specs.Market.{Listed, Lawful}
use Rattle.round.specs.ByPoints.{wish_of, market_of}
use Rattle.round.proofs.Best.{way_by_points}

pub rank_bound : (l : List ℕ) (p : ℕ) → rank l p ≤ length l
unfolding rank
rank_bound [] p = omega arith
rank_bound (q ∷ qs) p = let ih = rank_bound qs p in grind (arith, nat_tests)

-- what stands at a programme's rank is the programme
pub getD_rank : (l : List ℕ) (p d : ℕ) → rank l p < length l → get_or l (rank l p) d ≡ p
unfolding rank
getD_rank [] p d h = absurd (omega arith)
getD_rank (q ∷ qs) p d h = let ih = getD_rank qs p d in grind (arith, nat_tests)

-- a programme's rank is the first position at which it stands
pub rank_first : (l : List ℕ) (j d : ℕ) → j < length l → rank l (get_or l j d) ≤ j
unfolding rank
rank_first [] j d h = absurd (omega arith)
rank_first (q ∷ qs) zero d h = grind (arith, nat_tests)
rank_first (q ∷ qs) (suc j) d h = let ih = rank_first qs j d (omega arith) in grind (arith, nat_tests)

-- and its only one, where none stands twice
pub rank_getD : (m : ℕ) (l : List ℕ) (j d : ℕ) → Distinct m l → j < length l → rank l (get_or l j d) ≡ j
unfolding Distinct
rank_getD m l j d u h =
    let first = rank_first l j d h in
    let le : rank l (get_or l j d) < length l = omega arith in
    u.0 _ j le h (getD_rank l (get_or l j d) 0 le ∙ get_or_default l j d 0 h)

pub entry_small : (m : ℕ) (l : List ℕ) (j d : ℕ) → Distinct m l → j < length l → get_or l j d < m
unfolding Distinct
entry_small m l j d u h = let s = u.1 j h in let e = get_or_default l j d m h in omega arith

-- the lists of a proper round
pub listed_by_rank : (r : Round) → Proper r → Listed (length r.lists) (length r.places) (wish_of r)
unfolding wish_of
listed_by_rank r ok =
    record {
      there = λ a j h. rank_getD _ _ j _ (distinct a j h) h;
      back = λ a p h. getD_rank _ p _ h;
      small = λ a j h. entry_small _ _ j _ (distinct a j h) h;
      outside = λ a h. ap {B = ℕ} (λ (l : List ℕ). length l) (get_or-eq_default r.lists [] h);
    }
  where
    distinct : (a j : ℕ) → j < length (get_or r.lists a []) → Distinct (length r.places) (get_or r.lists a [])
    distinct a j h =
        elim (cases_lt a (length r.lists)) [
          | inl t ↦ ok.lists a t
          | inr t ↦ let e = ap {B = ℕ} (λ (l : List ℕ). length l) (get_or-eq_default r.lists [] t) in absurd (omega arith)
        ]

-- a proper round's market is lawful
pub market_lawful : (r : Round) → Proper r → Lawful (market_of r)
unfolding market_of
market_lawful r ok = record { way = way_by_points _ _ _ ok.points; listed = listed_by_rank r ok }

-- only applicants list anything, and only workshops are listed
pub below_from_rank : (r : Round) → Proper r → (a p : ℕ) → rank (get_or r.lists a []) p < length (get_or r.lists a []) → (a < length r.lists) × (p < length r.places)
unfolding wish_of
below_from_rank r ok a p l =
    let listed = listed_by_rank r ok in
    let small = listed.small a _ l in
    let e = listed.back a p l in
    let none = listed.outside a in
    (elim (cases_lt a (length r.lists)) [ inl t ↦ t | inr t ↦ let z = none t in absurd (omega arith) ], omega arith)

-- what is no workshop stands in no list
pub rank_nowhere : (r : Round) → Proper r → (a p : ℕ) → length r.places ≤ p → rank (get_or r.lists a []) p ≡ length (get_or r.lists a [])
rank_nowhere r ok a p h =
    let bound = rank_bound (get_or r.lists a []) p in
    elim (cases_lt (rank (get_or r.lists a []) p) (length (get_or r.lists a [])))
    [ inl t ↦ let b = below_from_rank r ok a p t in absurd (omega arith) | inr t ↦ omega arith ]
