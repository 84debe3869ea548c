-- Why the bytes are no letter (the first fault, in the order of the bytes), and whether the place is the first whose cut is reached.
-- Each number is judged as it is read, so a fault in a number comes before bytes that are missing behind it. Definitions only.
use Rattle.std.specs.Prelude.{ℕ, zero, suc, ◌+◌, Bool, false, cond, not, ◌&&◌, ◌||◌, List, length, Some, None, Option, ◌==◌, nat_le, nat_lt}
use Rattle.layout.specs.Slices.{or_else}
use Rattle.layout.specs.Tables.{most_entries}
use Rattle.layout.specs.Bytes.{byte, word, refuse, first_of}
use Rattle.layout.specs.declared.Refusal.{Refusal}
use Rattle.layout.specs.declared.Refusal.TheVariants.{Malformed, NotFirst}
use Rattle.cuts.specs.Cuts.{reached, first_reached}
use Rattle.letters.specs.Letter.{count_in, entry_at, place_at, place_told, part_at, entry_in}
use Rattle.letters.specs.declared.entry.Entry.{Entry}
use Rattle.letters.specs.declared.check.Verdict.{Verdict}

-- a fault at this place of a part where the test holds; the k bytes at `at` of a part are not all there
abbrev pub fault_at : Bool → ℕ → Option ℕ
fault_at t at = cond t (Some at) None

abbrev pub lacks : List ℕ → ℕ → ℕ → Option ℕ
lacks part at k = fault_at (nat_lt (length part) (at + k)) (length part)

-- the faults of an entry at the front of a part, behind its workshop, by their place in the part: a kind that is none, and a number
-- that is not 0 in a cut that is not full
abbrev pub entry_fault : List ℕ → Option ℕ
entry_fault part =
    or_else (lacks part 1 3)
    (or_else (fault_at (nat_lt 2 (byte part 3)) 3)
    (or_else (lacks part 4 2)
    (or_else (fault_at (not (byte part 3 == 1) && nat_lt 0 (word part 4)) 4)
    (or_else (lacks part 6 2)
    (fault_at (not (byte part 3 == 1) && nat_lt 0 (word part 6)) 6)))))

-- a fault of the part that begins at `at`, as one of the letter
abbrev pub within : ℕ → Option ℕ → Option Refusal
within at None = None
within at (Some k) = Some (Malformed (at + k))

abbrev pub missing : List ℕ → ℕ → ℕ → Option Refusal
missing b at k = refuse (nat_lt (length b) (at + k)) (Malformed (length b))

-- too many entries
abbrev pub head_fault : List ℕ → Option Refusal
head_fault b = or_else (missing b 0 5) (refuse (nat_lt most_entries (count_in b)) (Malformed 4))

-- one of the first j entries is of this workshop
unfoldable pub workshop_seen : List ℕ → ℕ → ℕ → Bool
workshop_seen b w zero = false
workshop_seen b w (suc j) = byte b (entry_at j) == w || workshop_seen b w j

-- entry j is not there, its workshop was seen before, or it has a fault behind the workshop
abbrev pub judged : Bool → List ℕ → ℕ → Option Refusal
judged seen b j =
    or_else (missing b (entry_at j) 1)
    (or_else (refuse seen (Malformed (entry_at j))) (within (entry_at j) (entry_fault (part_at b j))))

-- the faults of entry j: its workshop may not stand in the letter already
abbrev pub listed_fault : List ℕ → ℕ → Option Refusal
listed_fault b j = judged (workshop_seen b (byte b (entry_at j)) j) b j

-- a place that is neither in the list nor none, and bytes behind it
abbrev pub end_fault : List ℕ → Option Refusal
end_fault b =
    or_else (missing b (place_at b) 1)
    (or_else (refuse (nat_le (count_in b) (byte b (place_at b)) && not (byte b (place_at b) == 255)) (Malformed (place_at b)))
    (refuse (nat_lt (place_at b + 1) (length b)) (Malformed (place_at b + 1))))

unfoldable pub letter_fault : List ℕ → Option Refusal
letter_fault b = or_else (head_fault b) (or_else (first_of (listed_fault b) (count_in b)) (end_fault b))

-- the cut of entry j is reached with the own points there and the lot; the first such entry, or 255
abbrev pub reached_in : List ℕ → ℕ → Bool
reached_in b j = reached (entry_in (part_at b j)).points (record { 0 = word b 2 }) (entry_in (part_at b j)).cut

unfoldable pub first_in : List ℕ → ℕ
first_in b = first_reached (reached_in b) (count_in b)

-- the place is another one
abbrev pub place_fault : List ℕ → Option Refusal
place_fault b = refuse (not (byte b (place_at b) == first_in b)) (NotFirst (first_in b))

-- what a letter that is right says beside its entries
abbrev pub verdict_in : List ℕ → Verdict
verdict_in b = record { applicant = word b 0; lot = record { 0 = word b 2 }; entries = count_in b; place = place_told (byte b (place_at b)) }

-- entry j of a letter, where it is there and has no fault of its own
abbrev pub taken_from : Option ℕ → Entry → Option Entry
taken_from None e = Some e
taken_from (Some k) e = None

abbrev pub entry_told : List ℕ → ℕ → Option Entry
entry_told b j = cond (nat_lt j most_entries) (taken_from (entry_fault (part_at b j)) (entry_in (part_at b j))) None
