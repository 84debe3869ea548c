-- What the office promises. Each is a statement, a type whose proof is owed. Assumes nothing.
use Rattle.std.specs.Prelude.{◌≡◌, ℕ, zero, suc, ◌+◌, ◌<◌, ◌≤◌, ◌≢◌, ◌⊎◌, List, [], ◌∷◌, length, ◌==◌, slice_index, slice_index_or, slice_set}
use Rattle.round.specs.Places.{Round, point, nowhere, result, steps, step, total, pick}

unfoldable pub Distinct : ℕ → List ℕ → Type 0
Distinct n cs = ((j k : ℕ) → j < length cs → k < length cs → slice_index cs j ≡ slice_index cs k → j ≡ k) × ((j : ℕ) → j < length cs → slice_index_or cs j n < n)

-- lists name programmes, none twice; no two applicants have equal points in a programme, but for 0
pub record Proper (r : Round) : Type 0 where
  pub lists : (a : ℕ) → a < length r.lists → Distinct (length r.places) (slice_index_or r.lists a [])
  pub points : (p a b : ℕ) → a < length r.lists → b < length r.lists → 0 < point r p a → point r p a ≡ point r p b → a ≡ b

-- the rank of a programme in a list: its place, or the list's length if it is not in it
unfoldable pub rank : List ℕ → ℕ → ℕ
rank [] p = 0
rank (q ∷ qs) p = pick (q == p) 0 (suc (rank qs p))

-- how many below n are given p
unfoldable pub given : (ℕ → ℕ) → ℕ → ℕ → ℕ
given m p zero = 0
given m p (suc n) = pick (m n == p) 1 0 + given m p n

-- an assignment gives each applicant a programme of the list, with points enough, or nowhere; no programme beyond its places;
-- and no applicant and programme would both rather have each other
pub record Stable (r : Round) (m : ℕ → ℕ) : Type 0 where
  pub own : (a : ℕ) → a < length r.lists → (m a ≡ nowhere r) ⊎ ((rank (slice_index_or r.lists a []) (m a) < length (slice_index_or r.lists a [])) × (0 < point r (m a) a))
  pub room : (p : ℕ) → p < length r.places → given m p (length r.lists) ≤ slice_index r.places p
  pub no_pair : (a p : ℕ) → a < length r.lists → p < length r.places → 0 < point r p a →
      rank (slice_index_or r.lists a []) p < rank (slice_index_or r.lists a []) (m a) →
      (slice_index r.places p ≤ given m p (length r.lists))
      × ((b : ℕ) → b < length r.lists → m b ≡ p → point r p a < point r p b)

unfoldable pub with_list : Round → ℕ → List ℕ → Round
with_list r a l = record { lists = slice_set r.lists a l; places = r.places; points = r.points }

-- The main promise: no list gets an applicant a place that is dearer to it than what its true list gets, whatever the others list
unfoldable pub Truthful : Type 0
Truthful =
    (r : Round) (a : ℕ) (honest other : List ℕ) → a < length r.lists →
    Proper (with_list r a honest) → Proper (with_list r a other) →
    rank honest (result (with_list r a honest) a) ≤ rank honest (result (with_list r a other) a)

-- the result is stable, and no stable assignment gives anybody a dearer place
unfoldable pub BestStable : Type 0
BestStable =
    (r : Round) → Proper r →
    Stable r (result r)
    × ((m : ℕ → ℕ) → Stable r m → (a : ℕ) → a < length r.lists → rank (slice_index_or r.lists a []) (result r a) ≤ rank (slice_index_or r.lists a []) (m a))

-- after that many steps nobody is turned down any more
unfoldable pub Ends : Type 0
Ends = (r : Round) → step r (steps r (total r.lists)) ≡ steps r (total r.lists)

-- whoever is left without a place, and whichever places are left free, are the same in every stable assignment
unfoldable pub SameLeft : Type 0
SameLeft =
    (r : Round) (m n : ℕ → ℕ) → Proper r → Stable r m → Stable r n →
    ((a : ℕ) → a < length r.lists → m a ≡ nowhere r → n a ≡ nowhere r)
    × ((p : ℕ) → p < length r.places → given m p (length r.lists) ≡ given n p (length r.lists))

-- one applicant more never gets anybody else a dearer place
unfoldable pub MoreApplicants : Type 0
MoreApplicants =
    (r : Round) (a b : ℕ) (l : List ℕ) → Proper r → Proper (with_list r b l) → a < length r.lists → b < length r.lists → a ≢ b → slice_index_or r.lists b [] ≡ [] →
    rank (slice_index_or r.lists a []) (result r a) ≤ rank (slice_index_or r.lists a []) (result (with_list r b l) a)

-- the least points with which a programme's places were had; 0 if places are left
unfoldable pub Cut : Round → (ℕ → ℕ) → List ℕ → Type 0
Cut r m cs =
    (p : ℕ) → p < length r.places →
    ((given m p (length r.lists) < slice_index r.places p) × (slice_index cs p ≡ 0))
    ⊎ ((given m p (length r.lists) ≡ slice_index r.places p) × ((b : ℕ) → b < length r.lists → m b ≡ p → slice_index cs p ≤ point r p b)
    × (((b : ℕ) × (b < length r.lists) × (m b ≡ p) × (point r p b ≡ slice_index cs p)) ⊎ (slice_index r.places p ≡ 0)))

-- from the published cuts and its own points an applicant reads its place: the dearest programme whose cut it reaches
unfoldable pub Readable : Type 0
Readable =
    (r : Round) (cs : List ℕ) (a p : ℕ) → Proper r → Cut r (result r) cs → a < length r.lists → p < length r.places → 0 < slice_index r.places p →
    0 < point r p a → slice_index cs p ≤ point r p a →
    rank (slice_index_or r.lists a []) (result r a) ≤ rank (slice_index_or r.lists a []) p
