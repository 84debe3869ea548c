-- A workshop's bench: rows, best first, no_row for an empty seat. v is the worth of a row, 0 for no row. Definitions only.
-- First what an ask does: an asker is carried down the bench; where it goes ahead of who sits there the two change places, and
-- whoever is carried past the last seat is out. Then the same as the code does it, up from the last seat, which on a bench that is
-- best first comes to the same and is over at once for most askers. Then what a bench holds.
use Rattle.std.specs.Prelude.{ℕ, Bool, true, cond, ◌&&◌, List, [], ◌∷◌, length, take, replicate, ◌==◌, nat_lt}
use Rattle.points.specs.Standing.{no_row}
use Rattle.bench.specs.declared.Answer.{Answer}
use Rattle.bench.specs.declared.Answer.TheVariants.{Kept, Displaced, TurnedDown}

-- the bench after x has asked
unfoldable pub after : (ℕ → ℕ) → ℕ → List ℕ → List ℕ
after v x [] = []
after v x (y ∷ ys) = cond (nat_lt (v y) (v x)) (x ∷ after v y ys) (y ∷ after v x ys)

-- who is out then: x itself, whoever it displaced, or no_row where a seat was empty
unfoldable pub out : (ℕ → ℕ) → ℕ → List ℕ → ℕ
out v x [] = x
out v x (y ∷ ys) = cond (nat_lt (v y) (v x)) (out v y ys) (out v x ys)

-- an empty bench of so many places, and the bench after all of xs have asked, the first of the list first
unfoldable pub empty_bench : ℕ → List ℕ
empty_bench places = replicate places no_row

unfoldable pub after_all : (ℕ → ℕ) → List ℕ → List ℕ → List ℕ
after_all v [] bench = bench
after_all v (x ∷ xs) bench = after_all v xs (after v x bench)

-- x goes ahead of everybody on the bench
unfoldable pub leads : (ℕ → ℕ) → ℕ → List ℕ → Bool
leads v x [] = true
leads v x (y ∷ ys) = nat_lt (v y) (v x) && leads v x ys

-- the bench after x has asked from the last seat up: x sits down at the first seat from which on it goes ahead of everybody, who
-- all move down by one
unfoldable pub taken_in : (ℕ → ℕ) → ℕ → List ℕ → List ℕ
taken_in v x [] = []
taken_in v x (y ∷ ys) = cond (leads v x (y ∷ ys)) (x ∷ take (length ys) (y ∷ ys)) (y ∷ taken_in v x ys)

-- who has the last seat; x where there is no seat
unfoldable pub last_seat : ℕ → List ℕ → ℕ
last_seat x [] = x
last_seat x (y ∷ ys) = last_seat y ys

-- who is out then: whoever had the last seat, or else x
unfoldable pub left_out : (ℕ → ℕ) → ℕ → List ℕ → ℕ
left_out v x bench = cond (nat_lt (v (last_seat x bench)) (v x)) (last_seat x bench) x

-- what x is told when y is out
abbrev pub answer_of : ℕ → ℕ → Answer
answer_of x y = cond (y == x) TurnedDown (cond (y == no_row) Kept (Displaced y))
