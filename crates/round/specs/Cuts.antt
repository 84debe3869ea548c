-- Cuts: the least with which a workshop's places were had, told as points and lot, and what is promised of them beyond the given
-- statement: every round has them, and from them and its own points everybody reads what it got.
use Rattle.std.specs.Prelude.{◌≡◌, ℕ, zero, suc, ◌-◌, ◌/◌, ◌%◌, ◌<◌, min, Bool, true, ◌&&◌, ◌⊎◌, List, [], ◌∷◌, map, length, ◌==◌, nat_le, nat_lt, slice_index, slice_index_or}
use Rattle.std.specs.List.{range_with_len}
use Rattle.round.specs.Places.{Round, point, nowhere, result, pick}
use Rattle.round.specs.Promise.{Proper, Cut, given}

-- the least that anybody below n has at p who is given p; 0 where nobody is
unfoldable pub lowest : Round → (ℕ → ℕ) → ℕ → ℕ → ℕ
lowest r m p zero = 0
lowest r m p (suc n) =
    pick (m n == p) (pick (given m p n == 0) (point r p n) (min (point r p n) (lowest r m p n))) (lowest r m p n)

-- the cut of a workshop: 0 while places are left
unfoldable pub cut_at : Round → (ℕ → ℕ) → ℕ → ℕ
cut_at r m p = pick (nat_lt (given m p (length r.lists)) (slice_index r.places p)) 0 (lowest r m p (length r.lists))

-- the cuts of all workshops
unfoldable pub cuts_of : Round → (ℕ → ℕ) → List ℕ
cuts_of r m = map (cut_at r m) (range_with_len 0 (length r.places))

-- every round has cuts
unfoldable pub HasCuts : Type 0
HasCuts = (r : Round) → Proper r → Cut r (result r) (cuts_of r (result r))

-- a reaches the cut of p: there are places, a has points there, and no fewer than the cut
unfoldable pub reaches : Round → List ℕ → ℕ → ℕ → Bool
reaches r cs a p = nat_lt 0 (slice_index r.places p) && (nat_lt 0 (point r p a) && nat_le (slice_index cs p) (point r p a))

-- what somebody got is a place whose cut it reaches
unfoldable pub ReachedCut : Type 0
ReachedCut =
    (r : Round) (cs : List ℕ) (a : ℕ) → Proper r → Cut r (result r) cs → a < length r.lists →
    (result r a ≡ nowhere r) ⊎ (reaches r cs a (result r a) ≡ true)

-- the first of a list that passes the test; d where none does
unfoldable pub first_of : (ℕ → Bool) → List ℕ → ℕ → ℕ
first_of f [] d = d
first_of f (q ∷ qs) d = pick (f q) q (first_of f qs d)

-- so from the cuts and its own points everybody reads what it got: the first of its list whose cut it reaches, or nowhere
unfoldable pub FirstReached : Type 0
FirstReached =
    (r : Round) (cs : List ℕ) (a : ℕ) → Proper r → Cut r (result r) cs → a < length r.lists →
    result r a ≡ first_of (reaches r cs a) (slice_index_or r.lists a []) (nowhere r)

-- a cut in words: open, places are left; shut, there are none; full, the points and the lot of the last who was kept
pub data Told : Type 0 where
  is_open : Told
  is_shut : Told
  is_full : ℕ → ℕ → Told

-- the points and the lot of a worth
unfoldable pub points_in : ℕ → ℕ
points_in w = w / 65536

unfoldable pub lot_in : ℕ → ℕ
lot_in w = 65535 - w % 65536

unfoldable pub told_at : Round → (ℕ → ℕ) → ℕ → Told
told_at r m p =
    pick (nat_lt (given m p (length r.lists)) (slice_index r.places p)) is_open
    (pick (slice_index r.places p == 0) is_shut (is_full (points_in (cut_at r m p)) (lot_in (cut_at r m p))))
