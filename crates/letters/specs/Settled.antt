-- The letters of a round that was asked to the end: what they say, and what is promised of them. Definitions and statements only.
use Rattle.std.specs.Prelude.{◌≡◌, ℕ, ◌<◌, true, List, length, take, is_ok, slice_index, slice_index_or}
use Rattle.layout.specs.Slices.{table}
use Rattle.layout.specs.Tables.{Tables, Proper, applicants, list_length, list_at}
use Rattle.points.specs.Standing.{rows_found, market}
use Rattle.asking.specs.Ended.{told, benches_of}
use Rattle.cuts.specs.Promised.{cut_at, own_points}
use Rattle.letters.specs.Letter.{Letter, encode_letter}
use Rattle.letters.specs.Exact.{judged_bytes}
use Rattle.letters.specs.Written.{all_seats, letter_bytes}
use Rattle.letters.specs.declared.entry.Entry.{Entry}

-- what stands at the front of the slices once all rows are found and all have asked
pub record Settled (t : Tables) (rows results benches : List ℕ) : Type 0 where
  pub rows_are : take (length t.entries) rows ≡ rows_found t
  pub results_are : take (applicants t) results ≡ table (told (market t)) (applicants t)
  pub benches_are : take (all_seats t) benches ≡ benches_of t

-- a's letter in the end: its number, its lot, for each entry of its list the workshop, its own points there and the cut, and what
-- it is told
abbrev pub own_entry : Tables → ℕ → ℕ → Entry
own_entry t a j =
    record {
      workshop = slice_index (list_at t a) j;
      points = record { 0 = own_points t (slice_index (list_at t a) j) a };
      cut = cut_at t (slice_index (list_at t a) j);
    }

abbrev pub own_letter : Tables → ℕ → Letter
own_letter t a =
    record {
      applicant = a;
      lot = slice_index t.lots a;
      entries = table (own_entry t a) (list_length t a);
      place = told (market t) a;
    }

-- the checker accepts these bytes
abbrev pub Accepted : List ℕ → Type 0
Accepted b = is_ok (judged_bytes b) ≡ true

-- that letter is what is written, and it is accepted
abbrev pub LettersSettled : Type 0
LettersSettled =
    (t : Tables) (rows results benches : List ℕ) → Proper t → Settled t rows results benches → (a : ℕ) → a < applicants t →
    (letter_bytes t rows results benches a ≡ encode_letter (own_letter t a)) × Accepted (letter_bytes t rows results benches a)

-- two rounds agree on what concerns a: its list, its lot, its own points there, and the cuts of these workshops
pub record SameFor (a : ℕ) (t u : Tables) : Type 0 where
  pub lists : list_at t a ≡ list_at u a
  pub lots : slice_index_or t.lots a 0 ≡ slice_index u.lots a
  pub points : (j : ℕ) → j < list_length t a → own_points t (slice_index (list_at t a) j) a ≡ own_points u (slice_index (list_at u a) j) a
  pub cuts : (j : ℕ) → j < list_length t a → cut_at t (slice_index (list_at t a) j) ≡ cut_at u (slice_index (list_at u a) j)

-- a's letter tells of nothing else: with these it is the same in both rounds, what it is told included
abbrev pub NothingElse : Type 0
NothingElse =
    (t u : Tables) → Proper t → Proper u → (a : ℕ) → a < applicants t → a < applicants u → SameFor a t u → own_letter t a ≡ own_letter u a
