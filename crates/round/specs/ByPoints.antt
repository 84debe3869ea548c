-- The way of keeping by points: the best of those who asked, as many as there are places. A worth is one number for points and
-- lot together: more points come first, then the lower lot; 0 is for those without points, who are never kept.
-- And a given round as a market. Definitions only.
use Rattle.std.specs.Prelude.{ℕ, ◌+◌, ◌-◌, ◌*◌, Bool, ◌&&◌, [], length, nat_lt, slice_index, slice_index_or}
use Rattle.round.specs.Places.{Round, point, nowhere, pick}
use Rattle.round.specs.Promise.{rank}
use Rattle.round.specs.Market.{Wish, Market, count}

-- of two with different points the one with more goes ahead; with equal points the one with the lower lot. Lots are below 65536
unfoldable pub worth_of : ℕ → ℕ → ℕ
worth_of points lot = pick (nat_lt 0 points) (points * 65536 + (65535 - lot)) 0

-- how many of X, below n, go ahead of a at p
unfoldable pub ahead_of : (ℕ → ℕ → ℕ) → ℕ → ℕ → (ℕ → Bool) → ℕ → ℕ
ahead_of worth n p X a = count (λ b. X b && nat_lt (worth p a) (worth p b)) n

-- a has asked, has points, and fewer than the places of p go ahead of it
unfoldable pub keeps_best : (ℕ → ℕ) → (ℕ → ℕ → ℕ) → ℕ → ℕ → (ℕ → Bool) → ℕ → Bool
keeps_best places worth n p X a = X a && (nat_lt 0 (worth p a) && nat_lt (ahead_of worth n p X a) (places p))

unfoldable pub wish_of : Round → Wish
wish_of r =
    record {
      len = λ a. length (slice_index_or r.lists a []);
      entry = λ a j. slice_index_or (slice_index_or r.lists a []) j (nowhere r);
      pos = λ a p. rank (slice_index_or r.lists a []) p;
    }

unfoldable pub market_of : Round → Market
market_of r =
    record {
      n = length r.lists;
      m = length r.places;
      keeps = keeps_best (λ p. slice_index r.places p) (point r) (length r.lists);
      wish = wish_of r;
    }
