-- What a letter is worth, and what the checker promises: it accepts exactly the well-formed letters whose place is the first of the
-- list whose cut is reached. Definitions and statements only.
use Rattle.std.specs.Prelude.{◌≡◌, ℕ, Bool, false, cond, List, map, length, Ok, Err, Result, ◌==◌, ◌≢◌, slice_index_or}
use Rattle.layout.specs.Slices.{outcome, or_else}
use Rattle.layout.specs.declared.Refusal.{Refusal}
use Rattle.layout.specs.declared.Refusal.TheVariants.{Malformed, NotFirst}
use Rattle.cuts.specs.Cuts.{reached, first_reached}
use Rattle.letters.specs.Letter.{Letter, encode_letter, place_told, WellFormed}
use Rattle.letters.specs.Faults.{letter_fault, place_fault, verdict_in}
use Rattle.letters.specs.declared.entry.Entry.{Entry}
use Rattle.letters.specs.declared.check.Verdict.{Verdict}

-- the first entry of a letter whose cut is reached with the own points there and the lot, or 255
abbrev pub reached_with : ℕ → Entry → Bool
reached_with lot e = reached e.points (record { 0 = lot }) e.cut

abbrev pub reached_list : ℕ → List Entry → List Bool
reached_list lot = map (reached_with lot)

abbrev pub first_place : Letter → ℕ
first_place l = first_reached (λ j. slice_index_or (reached_list l.lot l.entries) j false) (length l.entries)

-- what the checker says of a letter: accepted, or refused with the place it should have
abbrev pub judgement : Letter → Result Verdict Refusal
judgement l =
    cond (l.place == first_place l)
    (Ok (record { applicant = l.applicant; lot = record { 0 = l.lot }; entries = length l.entries; place = place_told l.place }))
    (Err (NotFirst (first_place l)))

-- what the checker says of bytes: the first fault, or else another place than the first reached
unfoldable pub judged_bytes : List ℕ → Result Verdict Refusal
judged_bytes b = outcome (or_else (letter_fault b) (place_fault b)) (verdict_in b)

-- r is what a letter with the bytes b is worth. Any well-formed letter of these bytes is judged by its place; whatever is accepted
-- is such a letter, with the right place; and what is malformed is no letter's bytes
pub record Exact (b : List ℕ) (r : Result Verdict Refusal) : Type 0 where
  pub judged : (l : Letter) → WellFormed l → encode_letter l ≡ b → r ≡ judgement l
  pub accepted : (v : Verdict) → r ≡ Ok v → (l : Letter) × WellFormed l × (encode_letter l ≡ b) × (l.place ≡ first_place l)
  pub malformed : (at : ℕ) → r ≡ Err (Malformed at) → (l : Letter) → WellFormed l → encode_letter l ≢ b
