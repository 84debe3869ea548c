-- An entry at the front of a part, read and written: each is the other's inverse.
use Rattle.std.proofs.Common.{◌≡◌, ℕ, ◌+◌, ◌*◌, ◌/◌, ◌%◌, ◌≤◌, ◌⊎◌, List, ◌++◌, length, drop, None, sym, refl, inl, inr, arith}
use Rattle.std.proofs.lemmas.List.{drop_more}
use Rattle.std.proofs.lemmas.Bool.Decides.{nat_tests}
use Rattle.layout.specs.Bytes.{byte, word}
use Rattle.layout.specs.Encode.{BytesOnly}
use Rattle.layout.proofs.Written.{drop_word}
use Rattle.cuts.specs.declared.Cut.{Cut}
use Rattle.cuts.specs.declared.Cut.TheVariants.{Open, Shut, Full}
use Rattle.letters.specs.Letter.{kind_of, cut_points, cut_lot, cut_of_numbers, entry_bytes, entry_in}
use Rattle.letters.specs.Faults.{entry_fault}
use Rattle.letters.specs.declared.entry.Entry.{Entry}

-- the numbers of an entry without a fault: all are there, the kind is one, and a cut that is not full has none
pub record Clean (part : List ℕ) : Type 0 where
  pub there : 8 ≤ length part
  pub kind : byte part 3 ≤ 2
  pub points : (byte part 3 ≡ 1) ⊎ (word part 4 ≡ 0)
  pub lot : (byte part 3 ≡ 1) ⊎ (word part 6 ≡ 0)

pub clean_from_none : (part : List ℕ) → entry_fault part ≡ None → Clean part
clean_from_none part h = record { there = grind (arith, nat_tests); kind = grind (arith, nat_tests); points = grind (arith, nat_tests); lot = grind (arith, nat_tests) }

pub none_from_clean : (part : List ℕ) → Clean part → entry_fault part ≡ None
none_from_clean part c = grind (arith, nat_tests)

-- a cut is its kind and its numbers
pub cut_from_numbers : (c : Cut) → cut_of_numbers (kind_of c) (cut_points c) (cut_lot c) ≡ c
cut_from_numbers Open = refl
cut_from_numbers (Full points lot) = refl
cut_from_numbers Shut = refl

module _ (k points lot : ℕ) (kind : k ≤ 2) where
  pub kind_of_cut_from : kind_of (cut_of_numbers k points lot) ≡ k
  kind_of_cut_from = grind (arith, nat_tests)

  pub cut_points_cut_from : (k ≡ 1) ⊎ (points ≡ 0) → cut_points (cut_of_numbers k points lot) ≡ points
  cut_points_cut_from h = grind (arith, nat_tests)

  pub cut_lot_cut_from : (k ≡ 1) ⊎ (lot ≡ 0) → cut_lot (cut_of_numbers k points lot) ≡ lot
  cut_lot_cut_from h = grind (arith, nat_tests)

-- the front of a part is the entry that is read from it
pub part_is_entry : (part : List ℕ) → BytesOnly part → Clean part → part ≡ entry_bytes (entry_in part) ++ drop 8 part
part_is_entry part small c =
    let k = byte part 3 in
    let cut = cut_of_numbers k (word part 4) (word part 6) in
    let there = c.there in
    let at_0 = drop_more part 0 0 (omega arith) in
    let at_1 = drop_word part small 1 (word part 1) (omega arith) refl in
    let at_3 = drop_more part 3 0 (omega arith) in
    let at_4 = drop_word part small 4 (cut_points cut) (omega arith) (sym (cut_points_cut_from k (word part 4) (word part 6) c.kind c.points)) in
    let at_6 = drop_word part small 6 (cut_lot cut) (omega arith) (sym (cut_lot_cut_from k (word part 4) (word part 6) c.kind c.lot)) in
    let kind = kind_of_cut_from k (word part 4) (word part 6) c.kind in
    cc

-- an entry that is written is read
pub word_two_bytes : (x : ℕ) → x % 256 + 256 * (x / 256) ≡ x
word_two_bytes x = omega arith

module _ (e : Entry) (rest : List ℕ) where
  pub clean_entry_bytes : Clean (entry_bytes e ++ rest)
  clean_entry_bytes =
      let points = word_two_bytes (cut_points e.cut) in
      let lot = word_two_bytes (cut_lot e.cut) in
      elim e.cut as (λ c. Clean (entry_bytes (record { workshop = e.workshop; points = e.points; cut = c }) ++ rest)) [
        | Open ↦ record { there = omega arith; kind = omega arith; points = inr refl; lot = inr refl }
        | Shut ↦ record { there = omega arith; kind = omega arith; points = inr refl; lot = inr refl }
        | Full p l ↦ record { there = omega arith; kind = omega arith; points = inl refl; lot = inl refl }
      ]

  pub entry_in_entry_bytes : entry_in (entry_bytes e ++ rest) ≡ e
  entry_in_entry_bytes =
      let own = word_two_bytes e.points.0 in
      let points = word_two_bytes (cut_points e.cut) in
      let lot = word_two_bytes (cut_lot e.cut) in
      let cut = cut_from_numbers e.cut in
      rw (own, points, lot, cut)
