-- The kinds of a cut and the bytes that tell them. Definitions only.
use Rattle.std.specs.Prelude.{◌≡◌, ℕ, ◌<◌, Result, MatchResult}
use Rattle.letters.specs.declared.entry.Kind.{Kind}
use Rattle.letters.specs.declared.entry.Kind.TheVariants.{Open, Full, Shut}
use Rattle.letters.specs.declared.entry.NoKind.{NoKind}

abbrev pub number_of_kind : Kind → ℕ
number_of_kind Open = 0
number_of_kind Full = 1
number_of_kind Shut = 2

-- the kind that a byte tells, or that it tells none
abbrev pub Told : ℕ → Result Kind NoKind → Type 0
Told number r = MatchResult r (λ kind. number_of_kind kind ≡ number) (λ _. 2 < number)
