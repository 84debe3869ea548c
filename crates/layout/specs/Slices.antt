-- What lent slices hold after a call: a list made from a function of the index, laid over the front of what was there.
use Rattle.std.specs.Prelude.{ℕ, zero, suc, List, [], ◌++◌, map, length, drop, Some, None, Ok, Err, Option, Result}
use Rattle.std.specs.List.{range_with_len}

-- f 0, f 1, up to f (n - 1)
abbrev pub table : {X : Type 0} → (ℕ → X) → ℕ → List X
table f n = map f (range_with_len 0 n)

-- the lists f 0, f 1, up to f (n - 1), one after the other
unfoldable pub flat : (ℕ → List ℕ) → ℕ → List ℕ
flat f zero = []
flat f (suc n) = flat f n ++ f n

-- xs over the front of old; what lies behind stays
abbrev pub over : List ℕ → List ℕ → List ℕ
over xs old = xs ++ drop (length xs) old

-- xs over the front of old where the call succeeded, and old where it refused
abbrev pub laid : {T E : Type 0} → Result T E → List ℕ → List ℕ → List ℕ
laid (Ok v) xs old = over xs old
laid (Err e) xs old = old

-- a fault refuses, and no fault gives the value
abbrev pub outcome : {T E : Type 0} → Option E → T → Result T E
outcome None v = Ok v
outcome (Some e) v = Err e

-- this fault, or else that
abbrev pub or_else : {E : Type 0} → Option E → Option E → Option E
or_else None g = g
or_else (Some e) g = Some e
