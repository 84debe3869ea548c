-- What is printed of a round, byte by byte. A line ends with the byte 10. Definitions only.
use Rattle.std.specs.Prelude.{ℕ, ◌+◌, cond, List, [], ◌∷◌, ◌++◌, codes, decimal}
use Rattle.layout.specs.Refusals.{number_of, place_of}
use Rattle.layout.specs.Slices.{flat}
use Rattle.layout.specs.Tables.{Tables, applicants, workshops}
use Rattle.layout.specs.declared.Refusal.{Refusal}
use Rattle.round.specs.Market.{Market, final, placed_at, got, asks, placed}
use Rattle.points.specs.Standing.{market}
use Rattle.cuts.specs.declared.Cut.{Cut}
use Rattle.cuts.specs.Words.{cut_words}
use Rattle.cuts.specs.Promised.{cut_at}

abbrev pub newline : List ℕ
newline = 10 ∷ []

-- refused 5 at 12
unfoldable pub refusal_line : Refusal → List ℕ
refusal_line e = codes "refused " ++ (decimal (number_of e) ++ (codes " at " ++ (decimal (place_of e) ++ newline)))

-- asks 8 placed 3
unfoldable pub head_line : ℕ → ℕ → List ℕ
head_line asks placed = codes "asks " ++ (decimal asks ++ (codes " placed " ++ (decimal placed ++ newline)))

-- applicant 0 workshop 1 wish 2
unfoldable pub placed_line : ℕ → ℕ → ℕ → List ℕ
placed_line a w wish =
    codes "applicant " ++ (decimal a ++ (codes " workshop " ++ (decimal w ++ (codes " wish " ++ (decimal wish ++ newline)))))

-- applicant 2 none
unfoldable pub none_line : ℕ → List ℕ
none_line a = codes "applicant " ++ (decimal a ++ (codes " none" ++ newline))

-- what a got; wishes count from 1
unfoldable pub applicant_line : Market → ℕ → List ℕ
applicant_line k a = cond (placed_at k (final k) a) (placed_line a (got k a) (final k a + 1)) (none_line a)

-- cut 0 30 lot 2
unfoldable pub cut_line : ℕ → Cut → List ℕ
cut_line w c = codes "cut " ++ (decimal w ++ (codes " " ++ (cut_words c ++ newline)))

-- all that is printed of a round: the head, a line for each applicant, a line for each workshop
unfoldable pub text_of : Tables → List ℕ
text_of t =
    head_line (asks (market t)) (placed (market t))
    ++ (flat (applicant_line (market t)) (applicants t)
    ++ flat (λ w. cut_line w (cut_at t w)) (workshops t))
