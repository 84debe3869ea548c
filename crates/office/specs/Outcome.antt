-- What comes out of a round, as functions of its tables: what each applicant is told, and the letters. Definitions only.
use Rattle.std.specs.Prelude.{ℕ, cond, List, [], nat_lt}
use Rattle.layout.specs.Slices.{table, flat}
use Rattle.layout.specs.Tables.{Tables, applicants}
use Rattle.points.specs.Standing.{market}
use Rattle.asking.specs.Ended.{told}
use Rattle.letters.specs.Letter.{encode_letter}
use Rattle.letters.specs.Settled.{own_letter}

-- what each applicant is told: the position in its list of what it got, from 0, or 255 for nothing
unfoldable pub results_of : Tables → List ℕ
results_of t = table (told (market t)) (applicants t)

-- the bytes of a's letter, and of all letters one after the other
unfoldable pub letter_of : Tables → ℕ → List ℕ
letter_of t a = encode_letter (own_letter t a)

unfoldable pub letters_of : Tables → List ℕ
letters_of t = flat (letter_of t) (applicants t)

-- a's letter, and no bytes where there is no such applicant
abbrev pub letter_told : Tables → ℕ → List ℕ
letter_told t a = cond (nat_lt a (applicants t)) (letter_of t a) []
