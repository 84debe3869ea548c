-- The checker's verdict on the bytes of a letter is that on the letter.
use Rattle.std.proofs.Common.{◌≡◌, ℕ, ◌<◌, Bool, true, false, cond, not, eqb, List, get_or, None, Ok, Err, Option, Result, sym, refl, ap, ◌∙◌, arith}
use Rattle.std.proofs.lemmas.List.{get_or-map}
use Rattle.std.proofs.lemmas.Bool.Decides.{nat_tests}
use Rattle.layout.specs.Slices.{or_else, outcome, table}
use Rattle.layout.specs.Bytes.{byte, word, refuse}
use Rattle.layout.specs.Encode.{BytesOnly}
use Rattle.layout.specs.declared.Refusal.{Refusal}
use Rattle.layout.specs.declared.Refusal.TheVariants.{Malformed, NotFirst}
use Rattle.layout.proofs.Flats.{length_table, getD_table}
use Rattle.layout.proofs.Firsts.{or_else_past, or_else_none}
use Rattle.cuts.proofs.Firsts.{first_that_same}
use Rattle.cuts.specs.Cuts.{first_that, position}
use Rattle.letters.specs.Letter.{Letter, WellFormed, encode_letter, count_in, place_at, place_told, part_at, entry_in, letter_in}
use Rattle.letters.specs.Faults.{letter_fault, place_fault, verdict_in, first_in, reached_in}
use Rattle.letters.specs.Exact.{reached_with, reached_list, first_place, judgement, judged_bytes, Exact}
use Rattle.letters.specs.declared.entry.Entry.{Entry}
use Rattle.letters.specs.declared.check.Verdict.{Verdict}
use Rattle.letters.proofs.Reading.{none_from_ok}
use Rattle.letters.proofs.Formed.{formed_from_none, none_from_formed}
use Rattle.letters.proofs.RoundTrip.{blank, encode_letter_in, well_formed_in, formed_encode, letter_in_encode}

-- the bytes and the letter that they say have the same first entry that is reached
first_in_is : (b : List ℕ) → first_in b ≡ first_place (letter_in b)
unfolding first_in
first_in_is b =
    let n = count_in b in
    let f : ℕ → Entry = λ j. entry_in (part_at b j) in
    let g : ℕ → Bool = λ j. get_or (reached_list (word b 2) (table f n)) j false in
    let count = length_table f n in
    let each : (k : ℕ) → k < n → reached_in b k ≡ g k =
    λ k l. sym (get_or-map (reached_with (word b 2)) (table f n) k blank false (omega arith) ∙ ap (reached_with (word b 2)) (getD_table f n k blank l))
    in
    ap position (first_that_same (reached_in b) g n each ∙ ap (first_that g) (sym count))

by_place : (t : Bool) (first : ℕ) (v : Verdict) → outcome (refuse (not t) (NotFirst first)) v ≡ cond t (Ok v) (Err (NotFirst first))
by_place true first v = refl
by_place false first v = refl

-- without a fault the verdict goes by the place
judged_letter_in : (b : List ℕ) → letter_fault b ≡ None → judged_bytes b ≡ judgement (letter_in b)
unfolding judged_bytes
judged_letter_in b none =
    let place = byte b (place_at b) in
    let count = length_table (λ j. entry_in (part_at b j)) (count_in b) in
    ap (λ (f : Option Refusal). outcome f (verdict_in b)) (or_else_past (letter_fault b) (place_fault b) none)
    ∙ by_place (eqb place (first_in b)) (first_in b) (verdict_in b)
    ∙ ap (λ (first : ℕ). cond (eqb place first) (Ok (verdict_in b)) (Err (NotFirst first))) (first_in_is b)
    ∙ ap (λ (n : ℕ). cond (eqb place (first_place (letter_in b)))
    (Ok (record { applicant = word b 0; lot = record { 0 = word b 2 }; entries = n; place = place_told place }))
    (Err (NotFirst (first_place (letter_in b))))) (sym count)

-- so the bytes of a well-formed letter are judged by its place
pub judged_encode : (l : Letter) → WellFormed l → judged_bytes (encode_letter l) ≡ judgement l
judged_encode l good =
    judged_letter_in (encode_letter l) (none_from_formed (encode_letter l) (formed_encode l good)) ∙ ap judgement (letter_in_encode l good)

never_malformed : (t : Bool) (v : Verdict) (first at : ℕ) → ◌≡◌ {A = Result Verdict Refusal} (cond t (Ok v) (Err (NotFirst first))) (Err (Malformed at)) → ⊥
never_malformed true v first at h = let z : ◌≡◌ {A = ℕ} 0 1 = cc in omega arith
never_malformed false v first at h = let z : ◌≡◌ {A = ℕ} 0 1 = cc in omega arith

pub exact : (b : List ℕ) → BytesOnly b → Exact b (judged_bytes b)
unfolding judged_bytes
exact b small =
    let judged : (l : Letter) → WellFormed l → encode_letter l ≡ b → judged_bytes b ≡ judgement l =
    λ l good e. ap judged_bytes (sym e) ∙ judged_encode l good
    in
    record {
      judged = judged;
      accepted = λ v h.
          let ok = none_from_ok (or_else (letter_fault b) (place_fault b)) (verdict_in b) v (sym h) in
          let none = or_else_none (letter_fault b) (place_fault b) ok.0 in
          let formed = formed_from_none b none.0 in
          let right : byte b (place_at b) ≡ first_in b = grind (arith, nat_tests, none.1) in
          (letter_in b, well_formed_in b small formed, encode_letter_in b small formed, right ∙ first_in_is b);
      malformed = λ at h l good e. never_malformed _ _ _ at (sym (judged l good e) ∙ h);
    }
