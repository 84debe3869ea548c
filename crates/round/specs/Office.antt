-- What the office promises beyond the given statements, in the same words: of asking in any order, of the number of asks, of any set of
-- applicants that do not write their true lists; and that worths, rounds and assignments are those of the market.
use Rattle.std.specs.Prelude.{◌≡◌, ℕ, ◌+◌, ◌<◌, ◌≤◌, min, Bool, true, false, ◌⊎◌, List, [], length, replicate, slice_index, slice_index_or}
use Rattle.round.specs.Places.{Round, asked, refused, steps, total, result}
use Rattle.round.specs.Promise.{Proper, Stable, rank}
use Rattle.round.specs.Market.{Lawful, StableAt, sum, run, got, held, asks}
use Rattle.round.specs.ByPoints.{worth_of, market_of}

-- the position of what an assignment gives, in each applicant's list
unfoldable pub position_of : Round → (ℕ → ℕ) → ℕ → ℕ
position_of r m a = rank (slice_index_or r.lists a []) (m a)

-- the number of asks when everybody has come to its position: the entries that were asked, over all lists
unfoldable pub asks_from : Round → List ℕ → ℕ
asks_from r at = sum (λ a. min (slice_index at a + 1) (length (slice_index_or r.lists a []))) (length r.lists)

-- the number of asks of a round
unfoldable pub asks_of : Round → ℕ
asks_of r = asks_from r (steps r (total r.lists))

-- one after the other, in groups, or all together: some of those who are turned down ask the next of their lists
pub record GoesOn (r : Round) (at to : List ℕ) : Type 0 where
  pub long : length to ≡ length at
  pub each : (a : ℕ) → a < length r.lists → (slice_index to a ≡ slice_index at a) ⊎ ((refused r at a ≡ true) × (slice_index to a ≡ slice_index at a + 1))

-- where asking in some order has come to, from everybody's first entry
pub data ComesTo (r : Round) : List ℕ → Type 0 where
  first : ComesTo r (replicate (length r.lists) 0)
  next : (at to : List ℕ) → ComesTo r at → GoesOn r at to → ComesTo r to

-- all together is one of the orders, and after as many steps as there are entries nobody is turned down
unfoldable pub AllTogether : Type 0
AllTogether =
    (r : Round) → ((t : ℕ) → ComesTo r (steps r t)) × ((a : ℕ) → a < length r.lists → refused r (steps r (total r.lists)) a ≡ false)

-- whatever the order: where nobody is turned down any more, everybody asks what the result gives it, and the asks were as many; never
-- more than there are entries in all lists
unfoldable pub AnyOrder : Type 0
AnyOrder =
    (r : Round) (at : List ℕ) → Proper r → ComesTo r at → ((a : ℕ) → a < length r.lists → refused r at a ≡ false) →
    ((a : ℕ) → asked r at a ≡ result r a) × (asks_from r at ≡ asks_of r) × (asks_of r ≤ total r.lists)

-- the same workshops, other lists
unfoldable pub with_lists : Round → List (List ℕ) → Round
with_lists r ls = record { lists = ls; places = r.places; points = r.points }

-- whatever set of applicants writes other lists than its true ones, not all of it get something dearer, by their true lists, than
-- the true lists get them. r has the true lists, ls are those that are sent in
unfoldable pub NotAllLiarsGain : Type 0
NotAllLiarsGain =
    (r : Round) (ls : List (List ℕ)) (liar : ℕ → Bool) → Proper r → Proper (with_lists r ls) → length ls ≡ length r.lists →
    ((a : ℕ) → liar a ≡ false → slice_index_or ls a [] ≡ slice_index_or r.lists a []) → (b : ℕ) → b < length r.lists → liar b ≡ true →
    ((a : ℕ) → a < length r.lists → liar a ≡ true → rank (slice_index_or r.lists a []) (result (with_lists r ls) a) < rank (slice_index_or r.lists a []) (result r a)) →
    ⊥

-- worths go by points first and then by the lower lot, and only those without points have none
unfoldable pub ByPoints : Type 0
ByPoints =
    (p q l k : ℕ) → l < 65536 → k < 65536 → 0 < q →
    (worth_of p l < worth_of q k → (p < q) ⊎ ((p ≡ q) × (k < l)))
    × ((p < q) ⊎ ((p ≡ q) × (k < l)) → worth_of p l < worth_of q k)
    × (worth_of p l ≡ worth_of q k → (p ≡ q) × (l ≡ k))
    × (0 < worth_of q k)
    × (worth_of 0 l ≡ 0)

-- a proper round is a lawful market, and the given steps, result and asks are those of the market
unfoldable pub ByMarket : Type 0
ByMarket =
    (r : Round) → Proper r →
    Lawful (market_of r)
    × ((t a : ℕ) → slice_index (steps r t) a ≡ run (market_of r) t a)
    × ((a : ℕ) → result r a ≡ got (market_of r) a)
    × (asks_of r ≡ asks (market_of r))

-- the stable assignments are the stable states of the market: by the positions of what an assignment gives, and by what a state holds
unfoldable pub SameStable : Type 0
SameStable =
    (r : Round) → Proper r →
    ((m : ℕ → ℕ) → Stable r m → StableAt (market_of r) (position_of r m))
    × ((s : ℕ → ℕ) → StableAt (market_of r) s → Stable r (held (market_of r) s))
    × ((s : ℕ → ℕ) → StableAt (market_of r) s → (a : ℕ) → position_of r (held (market_of r) s) a ≡ s a)
    × ((m : ℕ → ℕ) → Stable r m → (a : ℕ) → a < length r.lists → held (market_of r) (position_of r m) a ≡ m a)
