-- The letters of a round, from its tables and from the lists that asking leaves: each entry's row, the results, the benches. Total
-- functions of the lists, whatever they hold. Definitions only.
use Rattle.std.specs.Prelude.{◌≡◌, ℕ, ◌+◌, ◌*◌, ◌%◌, ◌<◌, List, length, take, drop, Option, nat_le, nat_lt, slice_index, slice_index_or}
use Rattle.layout.specs.Slices.{table, flat, or_else}
use Rattle.layout.specs.Tables.{Tables, applicants, workshops, places_at, list_length}
use Rattle.layout.specs.Bytes.{refuse}
use Rattle.layout.specs.declared.Refusal.{Refusal}
use Rattle.layout.specs.declared.Refusal.TheVariants.{NoRoom}
use Rattle.layout.specs.declared.Lent.TheVariants.{Results, Letters}
use Rattle.points.specs.Standing.{points_of_row}
use Rattle.asking.specs.Ended.{no_room}
use Rattle.cuts.specs.Cuts.{cut_of_bench}
use Rattle.cuts.specs.declared.Cut.{Cut}
use Rattle.cuts.specs.declared.Cut.TheVariants.{Open}
use Rattle.letters.specs.Letter.{Letter, encode_letter}
use Rattle.letters.specs.declared.entry.Entry.{Entry}

-- the seats of w among all benches
abbrev pub bench_in : Tables → List ℕ → ℕ → List ℕ
bench_in t benches w = take (places_at t w) (drop (slice_index t.seats w) benches)

-- the number of all seats
abbrev pub all_seats : Tables → ℕ
all_seats t = slice_index t.seats (workshops t)

-- a list has each workshop's cut at its number
abbrev pub CutsTold : Tables → List ℕ → List Cut → Type 0
CutsTold t benches cuts = (w : ℕ) → w < workshops t → slice_index_or cuts w Open ≡ cut_of_bench t (bench_in t benches w)

-- what a letter says of a workshop and of the applicant's row there
abbrev pub entry_with : Tables → List ℕ → ℕ → ℕ → Entry
entry_with t benches w row =
    record {
      workshop = w;
      points = record { 0 = points_of_row t row };
      cut = cut_of_bench t (bench_in t benches w);
    }

-- what it says of entry k, among the entries of all lists
abbrev pub entry_from : Tables → List ℕ → List ℕ → ℕ → Entry
entry_from t rows benches k = entry_with t benches (slice_index t.entries k) (slice_index rows k)

-- the k entries from start on
abbrev pub entries_from : Tables → List ℕ → List ℕ → ℕ → ℕ → List Entry
entries_from t rows benches start k = table (λ j. entry_from t rows benches (start + j)) k

-- a's letter
abbrev pub letter_from : Tables → List ℕ → List ℕ → List ℕ → ℕ → Letter
letter_from t rows results benches a =
    record {
      applicant = a;
      lot = slice_index t.lots a;
      entries = entries_from t rows benches (slice_index t.starts a) (list_length t a);
      place = slice_index results a % 256;
    }

-- its bytes and how many they are; the bytes of all letters, one after the other, and how many they are
abbrev pub letter_bytes : Tables → List ℕ → List ℕ → List ℕ → ℕ → List ℕ
letter_bytes t rows results benches a = encode_letter (letter_from t rows results benches a)

abbrev pub letter_length : Tables → ℕ → ℕ
letter_length t a = 6 + 8 * list_length t a

abbrev pub all_letters : Tables → List ℕ → List ℕ → List ℕ → List ℕ
all_letters t rows results benches = flat (letter_bytes t rows results benches) (applicants t)

abbrev pub all_length : Tables → ℕ
all_length t = 6 * applicants t + 8 * length t.entries

-- no such applicant, or a slice that is too short: for one letter, and for all
abbrev pub letter_room : Tables → ℕ → ℕ → ℕ → ℕ → ℕ → Option Refusal
letter_room t results benches rows a out =
    or_else (refuse (nat_le (applicants t) a) (NoRoom Results))
    (or_else (no_room t results benches rows) (refuse (nat_lt out (letter_length t a)) (NoRoom Letters)))

abbrev pub letters_room : Tables → ℕ → ℕ → ℕ → ℕ → Option Refusal
letters_room t results benches rows out = or_else (no_room t results benches rows) (refuse (nat_lt out (all_length t)) (NoRoom Letters))
