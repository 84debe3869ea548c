-- What it means that a bench holds the best of those who asked. v is the worth of a row, 0 for no row. Definitions only.
use Rattle.std.specs.Prelude.{◌≡◌, ℕ, ◌+◌, ◌<◌, ◌≤◌, min, Bool, true, cond, not, ◌≢◌, ◌⊎◌, List, [], ◌∷◌, length, Decides, ◌==◌, nat_eq, nat_lt}
use Rattle.std.specs.List.Sorted.{IsPermutation}
use Rattle.layout.specs.Tables.{has}
use Rattle.points.specs.Standing.{no_row}
use Rattle.bench.specs.Row.{after, out, after_all, empty_bench, taken_in, left_out}

-- how many of xs pass the test; how many of xs are worth more than u
unfoldable pub number : (ℕ → Bool) → List ℕ → ℕ
number p [] = 0
number p (x ∷ xs) = cond (p x) 1 0 + number p xs

abbrev pub above : (ℕ → ℕ) → ℕ → List ℕ → ℕ
above v u xs = number (λ x. nat_lt u (v x)) xs

-- whoever sits further down is worth less, or is the same number again, as empty seats are; these, worth 0, come last
unfoldable pub BestFirst : (ℕ → ℕ) → List ℕ → Type 0
BestFirst v [] = Unit {0}
BestFirst v (y ∷ ys) = ((z : ℕ) → has z ys ≡ true → (v z < v y) ⊎ (z ≡ y)) × BestFirst v ys

-- those of xs that are worth something are all worth different numbers
abbrev pub ToldApart : (ℕ → ℕ) → List ℕ → Type 0
ToldApart v xs = (x y : ℕ) → has x xs ≡ true → has y xs ≡ true → 0 < v x → v x ≡ v y → x ≡ y

-- The bench holds the best of xs, as many as there are seats. sorted: the best first, the empty seats last; once: nobody has more
-- seats than it has asked for; kept: on the bench are those of xs with points of whom fewer than there are seats are worth more;
-- many: as many seats are worth more than u as rows of xs are, up to the number of seats. So with u = 0 no seat is empty but for
-- want of askers
pub record BestOf (v : ℕ → ℕ) (xs bench : List ℕ) : Type 0 where
  pub sorted : BestFirst v bench
  pub once : (x : ℕ) → x ≢ no_row → number (nat_eq x) bench ≤ number (nat_eq x) xs
  pub kept : (x : ℕ) → x ≢ no_row → Decides (has x bench) ((has x xs ≡ true) × (0 < v x) × (above v (v x) xs < length bench))
  pub many : (u : ℕ) → above v u bench ≡ min (length bench) (above v u xs)

-- an ask of x keeps it so: the bench held the best of all who asked before, and now holds the best of them and x
abbrev pub KeepsBest : (ℕ → ℕ) → ℕ → List ℕ → List ℕ → Type 0
KeepsBest v x before behind = (xs : List ℕ) → ToldApart v (x ∷ xs) → BestOf v xs before → BestOf v (x ∷ xs) behind

-- Statements: what holds of a bench at first empty after any row of asks.
-- it holds the best of those who asked
abbrev pub AllAsks : Type 0
AllAsks = (v : ℕ → ℕ) (places : ℕ) (xs : List ℕ) → v no_row ≡ 0 → ToldApart v xs → BestOf v xs (after_all v xs (empty_bench places))

-- in whatever order they asked
abbrev pub AnyOrder : Type 0
AnyOrder =
    (v : ℕ → ℕ) (places : ℕ) (xs ys : List ℕ) → v no_row ≡ 0 → ToldApart v xs → IsPermutation xs ys →
    after_all v xs (empty_bench places) ≡ after_all v ys (empty_bench places)

-- a seat is empty only for want of askers with points
abbrev pub SeatsTaken : Type 0
SeatsTaken =
    (v : ℕ → ℕ) (places : ℕ) (xs : List ℕ) → v no_row ≡ 0 → ToldApart v xs →
    number (λ y. not (y == no_row)) (after_all v xs (empty_bench places)) ≡ min places (above v 0 xs)

-- on a sorted bench it is the same to be carried down from the first seat
abbrev pub UpOrDown : Type 0
UpOrDown = (v : ℕ → ℕ) (x : ℕ) (bench : List ℕ) → BestFirst v bench → (taken_in v x bench ≡ after v x bench) × (left_out v x bench ≡ out v x bench)
