-- What a part of a lent slice holds after it was written. Definitions only.
use Rattle.std.specs.Prelude.{ℕ, ◌+◌, List, ◌++◌, length, take, drop}

-- xs over what stands in old from `at` on; all else stays
abbrev pub put : ℕ → List ℕ → List ℕ → List ℕ
put at xs old = take at old ++ (xs ++ drop (at + length xs) old)
