-- Places in programmes, by applicants' lists and programmes' points, with deferred acceptance. Assumes nothing: these are definitions.
use Rattle.std.specs.Prelude.{ℕ, zero, suc, ◌+◌, Bool, true, false, ◌&&◌, ◌||◌, List, [], ◌∷◌, length, replicate, ◌==◌, nat_le, nat_lt, slice_index, slice_index_or}

abbrev pub pick : {A : Type 0} → Bool → A → A → A
pick true a b = a
pick false a b = b

abbrev pub keep : ℕ → ℕ → ℕ → ℕ → ℕ
keep a b pa pb = pick (nat_lt pa pb) b a

-- lists: each applicant's programmes, the dearest first. places: each programme's number of places.
-- points: for each programme the points of every applicant, all different; 0 points are not enough for the programme
pub record Round : Type 0 where
  pub lists : List (List ℕ)
  pub places : List ℕ
  pub points : List (List ℕ)

unfoldable pub point : Round → ℕ → ℕ → ℕ
point r p a = slice_index (slice_index_or r.points p []) a

-- where an applicant stands: the place in the list that is asked for now
pub record Standing : Type 0 where
  pub at : List ℕ
  pub held : List ℕ

-- no programme
unfoldable pub nowhere : Round → ℕ
nowhere r = length r.places

-- the programme that applicant a asks now; nowhere when the list is used up
unfoldable pub asked : Round → List ℕ → ℕ → ℕ
asked r at a = slice_index_or (slice_index_or r.lists a []) (slice_index at a) (nowhere r)

-- how many of the applicants below n that ask p have more points there than a
unfoldable pub ahead : Round → List ℕ → ℕ → ℕ → ℕ → ℕ
ahead r at p a zero = 0
ahead r at p a (suc n) = pick (asked r at n == p && nat_lt (point r p a) (point r p n)) 1 0 + ahead r at p a n

-- a is turned down where it asks: no points there, or the places are taken by those ahead
unfoldable pub refused : Round → List ℕ → ℕ → Bool
refused r at a =
    nat_lt (asked r at a) (nowhere r)
    && (point r (asked r at a) a == 0 || nat_le (slice_index r.places (asked r at a)) (ahead r at (asked r at a) a (length r.lists)))

-- one step: every applicant that is turned down asks the next programme of the list
unfoldable pub on : Round → List ℕ → ℕ → List ℕ → List ℕ
on r at n [] = []
on r at n (k ∷ ks) = pick (refused r at n) (k + 1) k ∷ on r at (suc n) ks

unfoldable pub step : Round → List ℕ → List ℕ
step r at = on r at 0 at

unfoldable pub steps : Round → ℕ → List ℕ
steps r zero = replicate (length r.lists) 0
steps r (suc n) = step r (steps r n)

unfoldable pub total : List (List ℕ) → ℕ
total [] = 0
total (l ∷ ls) = length l + total ls

-- the end: after as many steps as there are entries in all lists nobody moves any more
unfoldable pub result : Round → ℕ → ℕ
result r a = asked r (steps r (total r.lists)) a
