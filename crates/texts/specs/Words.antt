-- A letter in words, line by line. Definitions only.
use Rattle.std.specs.Prelude.{ℕ, ◌+◌, Bool, true, false, cond, List, ◌++◌, codes, decimal, Option, ◌==◌}
use Rattle.layout.specs.Slices.{flat, or_else}
use Rattle.layout.specs.Bytes.{byte, word}
use Rattle.layout.specs.declared.Refusal.{Refusal}
use Rattle.letters.specs.Letter.{count_in, place_at, part_at, entry_in}
use Rattle.letters.specs.Faults.{letter_fault, place_fault, reached_in}
use Rattle.letters.specs.declared.entry.Entry.{Entry}
use Rattle.cuts.specs.Words.{cut_words}
use Rattle.texts.specs.Text.{newline}

-- applicant 0 lot 1
unfoldable pub whose_line : ℕ → ℕ → List ℕ
whose_line a lot = codes "applicant " ++ (decimal a ++ (codes " lot " ++ (decimal lot ++ newline)))

-- whether a cut is reached
abbrev pub reached_words : Bool → List ℕ
reached_words true = codes " reached" ++ newline
reached_words false = codes " not reached" ++ newline

-- wish 1 workshop 0 points 10 cut 30 lot 2 not reached; wishes count from 1
unfoldable pub wish_line : ℕ → Entry → Bool → List ℕ
wish_line wish e reached =
    codes "wish " ++ (decimal wish ++ (codes " workshop " ++ (decimal e.workshop ++ (codes " points " ++ (decimal e.points.0 ++ (codes " cut " ++ (cut_words e.cut ++ reached_words reached)))))))

-- got wish 2 workshop 1, or got none
unfoldable pub got_line : ℕ → ℕ → List ℕ
got_line wish w = codes "got wish " ++ (decimal wish ++ (codes " workshop " ++ (decimal w ++ newline)))

unfoldable pub got_none_line : List ℕ
got_none_line = codes "got none" ++ newline

unfoldable pub accepted_line : List ℕ
accepted_line = codes "accepted" ++ newline

-- the line of entry j of a letter
unfoldable pub entry_line : List ℕ → ℕ → List ℕ
entry_line b j = wish_line (j + 1) (entry_in (part_at b j)) (reached_in b j)

-- what the letter says was got
unfoldable pub place_line : List ℕ → List ℕ
place_line b =
    cond (byte b (place_at b) == 255) got_none_line
    (got_line (byte b (place_at b) + 1) (entry_in (part_at b (byte b (place_at b)))).workshop)

-- the fault that a letter has: it is no letter, or its place is not the first whose cut is reached
unfoldable pub fault_in_letter : List ℕ → Option Refusal
fault_in_letter b = or_else (letter_fault b) (place_fault b)

-- the whole letter, which was found right
unfoldable pub words_of : List ℕ → List ℕ
words_of b = whose_line (word b 0) (word b 2) ++ (flat (entry_line b) (count_in b) ++ (place_line b ++ accepted_line))
