-- What holds of deferred acceptance at every lawful market, whatever the ways of keeping. Each is a statement whose proof a
-- contract of src/lib.rt asks for.
use Rattle.std.specs.Prelude.{◌≡◌, ℕ, ◌<◌, ◌≤◌, Bool, true, false, ◌≢◌}
use Rattle.round.specs.Market.{Wish, Market, Lawful, Reached, Closed, StableAt, final, asks, asks_at, entries, placed_at, here, count, got}

-- one after the other in any order, in groups, or all together: whoever asks on until nobody is turned down comes to the
-- same end, with the same number of asks
abbrev pub SameEnd : Type 0
SameEnd =
    (k : Market) → Lawful k → (s : ℕ → ℕ) → Reached k s → Closed k s →
    ((a : ℕ) → s a ≡ final k a) × (asks_at k s ≡ asks k)

-- asking all together is one of these ways, and it comes to an end
abbrev pub EndClosed : Type 0
EndClosed = (k : Market) → Lawful k → Reached k (final k) × Closed k (final k)

-- at most as many asks as there are entries in all lists
abbrev pub FewAsks : Type 0
FewAsks = (k : Market) → asks k ≤ entries k

-- the end is stable
abbrev pub EndStable : Type 0
EndStable = (k : Market) → Lawful k → StableAt k (final k)

-- and no stable assignment gives anybody anything dearer
abbrev pub EndDearest : Type 0
EndDearest = (k : Market) → Lawful k → (s : ℕ → ℕ) → StableAt k s → (a : ℕ) → final k a ≤ s a

-- in all stable assignments the same applicants are placed, and every workshop has the same number
abbrev pub SameNumbers : Type 0
SameNumbers =
    (k : Market) → Lawful k → (s : ℕ → ℕ) → StableAt k s →
    ((a : ℕ) → placed_at k s a ≡ placed_at k (final k) a)
    × ((p : ℕ) → p < k.m → count (here k.wish s p) k.n ≡ count (here k.wish (final k) p) k.n)

-- the same workshops, other lists
unfoldable pub with_wish : Market → Wish → Market
with_wish k w = record { n = k.n; m = k.m; keeps = k.keeps; wish = w }

-- a's list is the same in v and w
pub record Agrees (v w : Wish) (a : ℕ) : Type 0 where
  pub len : v.len a ≡ w.len a
  pub entry : (j : ℕ) → v.entry a j ≡ w.entry a j
  pub pos : (p : ℕ) → v.pos a p ≡ w.pos a p

-- if somebody who had an empty list sends one, nobody else gets anything dearer than before
abbrev pub OneMore : Type 0
OneMore =
    (k : Market) (w : Wish) (b : ℕ) → Lawful k → Lawful (with_wish k w) → k.wish.len b ≡ 0 →
    ((a : ℕ) → a ≢ b → Agrees k.wish w a) → (a : ℕ) → a ≢ b → final k a ≤ final (with_wish k w) a

-- whatever set of applicants changes its lists, not all of them get something dearer, by their true lists, than the true lists get
-- them. k has the true lists, w the lists that are sent in
abbrev pub NotAllGain : Type 0
NotAllGain =
    (k : Market) (w : Wish) (liar : ℕ → Bool) → Lawful k → Lawful (with_wish k w) →
    ((a : ℕ) → liar a ≡ false → Agrees k.wish w a) → (b : ℕ) → b < k.n → liar b ≡ true →
    ((a : ℕ) → a < k.n → liar a ≡ true → k.wish.pos a (got (with_wish k w) a) < final k a) → ⊥

-- so no list gets a single applicant anything dearer than its true list gets, whatever the others write
abbrev pub NoGain : Type 0
NoGain =
    (k : Market) (w : Wish) (b : ℕ) → Lawful k → Lawful (with_wish k w) → b < k.n →
    ((a : ℕ) → a ≢ b → Agrees k.wish w a) → final k b ≤ k.wish.pos b (got (with_wish k w) b)
