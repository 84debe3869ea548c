-- The bytes of a letter: where each number stands and what it says, as total functions of the bytes; and a letter written out.
-- Definitions only.
use Rattle.std.specs.Prelude.{◌≡◌, ℕ, ◌+◌, ◌*◌, ◌^◌, ◌<◌, ◌≤◌, true, cond, ◌⊎◌, List, [], ◌∷◌, ◌++◌, map, length, drop, Some, None, Option, ◌==◌}
use Rattle.std.specs.List.{flat_map, AllByRecursion}
use Rattle.layout.specs.Slices.{table}
use Rattle.layout.specs.Tables.{no_repeat, most_entries}
use Rattle.layout.specs.Bytes.{byte, word}
use Rattle.layout.specs.Encode.{two_bytes}
use Rattle.cuts.specs.declared.Cut.{Cut}
use Rattle.cuts.specs.declared.Cut.TheVariants.{Open, Shut, Full}
use Rattle.letters.specs.declared.entry.Entry.{Entry}

-- what a letter says: whose it is, the lot, for each entry of the list the workshop, the own points there and the cut, and the
-- position in the list that was got, from 0, or 255 for none
pub record Letter : Type 0 where
  pub applicant : ℕ
  pub lot : ℕ
  pub entries : List Entry
  pub place : ℕ

-- A LETTER WRITTEN OUT. The kind of a cut and its numbers, which are 0 where it is not full
abbrev pub kind_of : Cut → ℕ
kind_of Open = 0
kind_of (Full points lot) = 1
kind_of Shut = 2

abbrev pub cut_points : Cut → ℕ
cut_points Open = 0
cut_points (Full points lot) = points.0
cut_points Shut = 0

abbrev pub cut_lot : Cut → ℕ
cut_lot Open = 0
cut_lot (Full points lot) = lot.0
cut_lot Shut = 0

-- an entry, eight bytes
abbrev pub entry_bytes : Entry → List ℕ
entry_bytes e =
    e.workshop
    ∷ (two_bytes e.points.0 ++ (kind_of e.cut ∷ (two_bytes (cut_points e.cut) ++ two_bytes (cut_lot e.cut))))

-- what stands before the entries: applicant, lot, count
abbrev pub head_bytes : ℕ → ℕ → ℕ → List ℕ
head_bytes applicant lot count = two_bytes applicant ++ (two_bytes lot ++ (count ∷ []))

unfoldable pub encode_letter : Letter → List ℕ
encode_letter l = head_bytes l.applicant l.lot (length l.entries) ++ (flat_map entry_bytes l.entries ++ (l.place ∷ []))

-- WHAT THE BYTES SAY. The applicant at 0, the lot at 2, the count at 4, the entries from 5 on, the place behind them
abbrev pub count_in : List ℕ → ℕ
count_in b = byte b 4

abbrev pub entry_at : ℕ → ℕ
entry_at j = 5 + 8 * j

abbrev pub place_at : List ℕ → ℕ
place_at b = entry_at (count_in b)

-- the place that its byte says: 255 says that there is none
abbrev pub place_told : ℕ → Option ℕ
place_told p = cond (p == 255) None (Some p)

-- the bytes from entry j on
abbrev pub part_at : List ℕ → ℕ → List ℕ
part_at b j = drop (entry_at j) b

-- the cut of this kind and these numbers
abbrev pub cut_of_numbers : ℕ → ℕ → ℕ → Cut
cut_of_numbers kind points lot = cond (kind == 0) Open (cond (kind == 1) (Full (record { 0 = points }) (record { 0 = lot })) Shut)

-- the entry at the front of a part
abbrev pub entry_in : List ℕ → Entry
entry_in part =
    record {
      workshop = byte part 0;
      points = record { 0 = word part 1 };
      cut = cut_of_numbers (byte part 3) (word part 4) (word part 6);
    }

abbrev pub letter_in : List ℕ → Letter
letter_in b =
    record {
      applicant = word b 0;
      lot = word b 2;
      entries = table (λ j. entry_in (part_at b j)) (count_in b);
      place = byte b (place_at b);
    }

-- WELL FORMED: numbers fit their bytes, at most as many entries as a list may have, no workshop twice, and a place in the list or
-- none. Any applicant, own points of 0 and a full cut of 0 points may stand in a letter
abbrev pub SmallEntry : Entry → Type 0
SmallEntry e =
    (e.workshop < 2 ^ 8) × (e.points.0 < 2 ^ 16) × (cut_points e.cut < 2 ^ 16) × (cut_lot e.cut < 2 ^ 16)

pub record WellFormed (l : Letter) : Type 0 where
  pub applicant : l.applicant < 2 ^ 16
  pub lot : l.lot < 2 ^ 16
  pub few : length l.entries ≤ most_entries
  pub small : AllByRecursion SmallEntry l.entries
  pub distinct : no_repeat (map (λ (e : Entry). e.workshop) l.entries) ≡ true
  pub place : (l.place < length l.entries) ⊎ (l.place ≡ 255)
