-- A cut in words. Definitions only.
use Rattle.std.specs.Prelude.{ℕ, List, ◌++◌, codes, decimal}
use Rattle.cuts.specs.declared.Cut.{Cut}
use Rattle.cuts.specs.declared.Cut.TheVariants.{Open, Shut, Full}

-- a cut: 30 lot 2, open, or shut
abbrev pub cut_words : Cut → List ℕ
cut_words Open = codes "open"
cut_words Shut = codes "shut"
cut_words (Full points lot) = decimal points.0 ++ (codes " lot " ++ decimal lot.0)
