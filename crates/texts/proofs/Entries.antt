-- The entries of a letter without faults are all there, and so is the one that was got.
use Rattle.std.proofs.Common.{◌≡◌, ℕ, ◌+◌, ◌<◌, ◌≤◌, Bool, true, false, not, ◌&&◌, eqb, ltb, leb, List, length, Some, None, Option, sym, refl, ap, arith}
use Rattle.std.proofs.lemmas.Bool.{lt-ltb, ltb-false}
use Rattle.std.proofs.lemmas.Bool.Decides.{nat_tests}
use Rattle.layout.specs.Slices.{or_else}
use Rattle.layout.specs.Bytes.{byte, word, first_of, refuse}
use Rattle.layout.proofs.Firsts.{or_else_none, refuse_none, first_of_none}
use Rattle.layout.specs.declared.Lot.{Lot}
use Rattle.cuts.specs.Cuts.{reached}
use Rattle.letters.specs.Letter.{count_in, entry_at, place_at, place_told, part_at, entry_in}
use Rattle.letters.specs.Faults.{letter_fault, missing, head_fault, workshop_seen, listed_fault, end_fault, within, entry_fault, taken_from, entry_told}
use Rattle.layout.specs.declared.Refusal.{Refusal}
use Rattle.layout.specs.declared.Refusal.TheVariants.{Malformed}
use Rattle.std.specs.Option.{IsNone}
use Rattle.letters.specs.declared.entry.Entry.{Entry}
use Rattle.texts.specs.Words.{wish_line, got_line, got_none_line, entry_line, place_line}

-- no fault within a part
within_none : (at : ℕ) (f : Option ℕ) (e : Entry) → within at f ≡ None → taken_from f e ≡ Some e
within_none at None e h = refl
within_none at (Some k) e h = let z : ◌≡◌ {A = ℕ} 0 1 = cc in absurd (omega arith)

-- the place that a byte says
place_is : (n place : ℕ) → Some place ≡ place_told n → (place ≡ n) × (n ≡ 255 → ⊥)
place_is n place told = grind (arith, nat_tests)

-- no fault, as a type says it
none_of : (f : Option Refusal) → IsNone f → f ≡ None
none_of None h = refl
none_of (Some e) h = let z : ◌≡◌ {A = ℕ} 0 1 = cc in absurd (omega arith)

module _ (b : List ℕ) (right : IsNone (letter_fault b)) where
  parts : (head_fault b ≡ None) × (first_of (listed_fault b) (count_in b) ≡ None) × (end_fault b ≡ None)
  unfolding letter_fault
  parts =
      let p = or_else_none (head_fault b) _ (none_of (letter_fault b) right) in
      let q = or_else_none (first_of (listed_fault b) (count_in b)) (end_fault b) p.1 in
      (p.0, q.0, q.1)

  pub count_few : count_in b ≤ 20
  count_few = let h = or_else_none (missing b 0 5) (refuse (ltb 20 (count_in b)) (Malformed 4)) parts.0 in ltb-false 20 (count_in b) (refuse_none (ltb 20 (count_in b)) (Malformed 4) h.1)

  -- entry j is there
  pub entry_whole : (j : ℕ) → j < count_in b → entry_told b j ≡ Some (entry_in (part_at b j))
  entry_whole j l =
      let few = count_few in
      let seen = refuse (workshop_seen b (byte b (entry_at j)) j) (Malformed (entry_at j)) in
      let behind = within (entry_at j) (entry_fault (part_at b j)) in
      let none = first_of_none (listed_fault b) (count_in b) parts.1 j l in
      let h = or_else_none (missing b (entry_at j) 1) (or_else seen behind) none in
      let k = or_else_none seen behind h.1 in
      let t : ltb j 20 ≡ true = lt-ltb j 20 (omega arith) in
      rw t (within_none (entry_at j) (entry_fault (part_at b j)) (entry_in (part_at b j)) k.1)

  -- what was got is one of the entries, or nothing
  pub place_listed : (byte b (place_at b) ≡ 255 → ⊥) → byte b (place_at b) < count_in b
  place_listed ne =
      let outside = leb (count_in b) (byte b (place_at b)) && not (eqb (byte b (place_at b)) 255) in
      let bad = refuse outside (Malformed (place_at b)) in
      let more = refuse (ltb (place_at b + 1) (length b)) (Malformed (place_at b + 1)) in
      let h = or_else_none (missing b (place_at b) 1) (or_else bad more) parts.2 in
      let k = or_else_none bad more h.1 in
      let s : outside ≡ false = refuse_none outside (Malformed (place_at b)) k.0 in
      grind (arith, nat_tests)

  pub got_whole : (place : ℕ) → Some place ≡ place_told (byte b (place_at b)) → entry_told b place ≡ Some (entry_in (part_at b place))
  got_whole place told =
      let p = place_is (byte b (place_at b)) place told in
      let l = place_listed p.1 in
      entry_whole place (omega arith)

-- The lines of what was read: of an entry, with the letter's lot, and of the place.
module _ (b : List ℕ) where
  pub line_of_entry : (j : ℕ) (e : Entry) (lot : Lot) (hit : Bool) → Some e ≡ Some (entry_in (part_at b j)) → lot.0 ≡ word b 2 → hit ≡ reached e.points lot e.cut →
      wish_line (j + 1) e hit ≡ entry_line b j
  unfolding entry_line
  line_of_entry j e lot hit same own is =
      let e_is : e ≡ entry_in (part_at b j) = cc in
      let lot_is : lot ≡ record { 0 = word b 2 } = ap (λ (n : ℕ). record { 0 = n }) own in
      rw (is, e_is, lot_is)

  pub line_of_none : None ≡ place_told (byte b (place_at b)) → got_none_line ≡ place_line b
  unfolding place_line
  line_of_none none = let t : eqb (byte b (place_at b)) 255 ≡ true = grind (arith, nat_tests) in rw t

  pub line_of_place : (place : ℕ) → Some place ≡ place_told (byte b (place_at b)) → (e : Entry) → Some e ≡ Some (entry_in (part_at b place)) →
      got_line (place + 1) e.workshop ≡ place_line b
  unfolding place_line
  line_of_place place told e same =
      let p = place_is (byte b (place_at b)) place told in
      let e_is : e ≡ entry_in (part_at b place) = cc in
      let t : eqb (byte b (place_at b)) 255 ≡ false = grind (arith, nat_tests) in
      rw (t, sym p.0, e_is)
