-- The number and the place that each refusal is told by. Definitions only.
use Rattle.std.specs.Prelude.{ℕ}
use Rattle.layout.specs.declared.Refusal.{Refusal}
use Rattle.layout.specs.declared.Refusal.TheVariants.{Short, BadSize, LongList, BadEntry, LotTaken, ManyRows, BadRow, RowOrder, Trailing, NoRoom, Malformed, NotFirst}
use Rattle.layout.specs.declared.Lent.{Lent}
use Rattle.layout.specs.declared.Lent.TheVariants.{Results, Benches, Letters, RoundTables}

-- which lent slice is too short
abbrev pub place_of_lent : Lent → ℕ
place_of_lent Results = 0
place_of_lent Benches = 1
place_of_lent Letters = 2
place_of_lent RoundTables = 3

abbrev pub number_of : Refusal → ℕ
number_of (Short at) = 1
number_of (BadSize at) = 2
number_of (LongList at) = 3
number_of (BadEntry at) = 4
number_of (LotTaken at) = 5
number_of (ManyRows at) = 6
number_of (BadRow at) = 7
number_of (RowOrder at) = 8
number_of (Trailing at) = 9
number_of (NoRoom lent) = 10
number_of (Malformed at) = 11
number_of (NotFirst at) = 12

abbrev pub place_of : Refusal → ℕ
place_of (Short at) = at
place_of (BadSize at) = at
place_of (LongList at) = at
place_of (BadEntry at) = at
place_of (LotTaken at) = at
place_of (ManyRows at) = at
place_of (BadRow at) = at
place_of (RowOrder at) = at
place_of (Trailing at) = at
place_of (NoRoom lent) = place_of_lent lent
place_of (Malformed at) = at
place_of (NotFirst at) = at
