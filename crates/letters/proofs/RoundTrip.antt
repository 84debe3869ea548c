-- Reading and writing a letter are inverse to each other.
use Rattle.std.proofs.Common.{◌≡◌, ℕ, zero, suc, ◌+◌, ◌*◌, ◌<◌, false, List, [], ◌∷◌, ◌++◌, map, length, get_or, drop, sym, refl, ap, ◌∙◌, add-zero, add-one, arith}
use Rattle.std.specs.List.{flat_map}
use Rattle.std.proofs.lemmas.List.{drop_more, drop_all, drop-drop, length-map, get_or-drop, get_or-map}
use Rattle.std.proofs.ByRecursion.{All-from_get_or}
use Rattle.std.proofs.lemmas.Bool.Decides.{not_from_Decides}
use Rattle.layout.specs.Slices.{table, flat}
use Rattle.layout.specs.Bytes.{byte, word}
use Rattle.layout.specs.Encode.{BytesOnly}
use Rattle.layout.proofs.Flats.{length_table, getD_table, is_table, drop_is_flat, drop_flat_at, drop_flat_all}
use Rattle.layout.proofs.Written.{drop_word}
use Rattle.layout.proofs.ReadProper.{byte_small, word_small}
use Rattle.layout.proofs.Seen.{no_repeat_apart, apart_no_repeat, false_from_decides}
use Rattle.cuts.specs.declared.Cut.TheVariants.{Open}
use Rattle.letters.specs.Letter.{Letter, WellFormed, SmallEntry, entry_bytes, encode_letter, count_in, entry_at, place_at, part_at, entry_in, letter_in}
use Rattle.letters.specs.Faults.{workshop_seen}
use Rattle.letters.specs.declared.entry.Entry.{Entry}
use Rattle.letters.proofs.Entries.{Clean, word_two_bytes, cut_points_cut_from, cut_lot_cut_from, part_is_entry, clean_entry_bytes, entry_in_entry_bytes}
use Rattle.letters.proofs.Formed.{Formed, workshop_seen_decides}
use Rattle.letters.proofs.Writing.{joined_table_more, length_encode_letter}

-- the entries one after the other, by position
pub joined_table : {X : Type 0} (f : X → List ℕ) (g : ℕ → X) (n : ℕ) → flat_map f (table g n) ≡ flat (λ j. f (g j)) n
unfolding flat
joined_table f g zero = refl
joined_table f g (suc n) =
    rw add-one at (joined_table_more f g n) ∙ ap (λ (xs : List ℕ). xs ++ f (g n)) (joined_table f g n)

bytes_from : (b : List ℕ) (at : ℕ) → BytesOnly b → BytesOnly (drop at b)
bytes_from b at small k h = rw (get_or-drop at b k 0) (byte_small b small (at + k))

byte_of_drop : (b : List ℕ) (at : ℕ) → get_or (drop at b) 0 0 ≡ byte b at
byte_of_drop b at = get_or-drop at b 0 0 ∙ ap (byte b) (add-zero at)

abbrev pub workshop_of : Entry → ℕ
workshop_of e = e.workshop

-- any entry
abbrev pub blank : Entry
blank = record { workshop = 0; points = record { 0 = 0 }; cut = Open }

small_in : (part : List ℕ) → BytesOnly part → Clean part → SmallEntry (entry_in part)
small_in part small c = (
  byte_small part small 0,
  word_small part small 1,
  rw (cut_points_cut_from (byte part 3) (word part 4) (word part 6) c.kind c.points) (word_small part small 4),
  rw (cut_lot_cut_from (byte part 3) (word part 4) (word part 6) c.kind c.lot) (word_small part small 6),
)

-- what is read without a fault is written as it was read
module _ (b : List ℕ) (small : BytesOnly b) (f : Formed b) where
  entry_of : ℕ → Entry
  entry_of j = entry_in (part_at b j)

  pub encode_letter_in : encode_letter (letter_in b) ≡ b
  unfolding encode_letter entry_of
  encode_letter_in =
      let n = count_in b in
      let count = length_table entry_of n in
      let body = joined_table entry_bytes entry_of n in
      let each : (j : ℕ) → j < n → drop (entry_at j) b ≡ entry_bytes (entry_of j) ++ drop (entry_at (j + 1)) b =
      λ j l. part_is_entry (part_at b j) (bytes_from b (entry_at j) small) (f.listed j l).2
      ∙ ap (λ (z : List ℕ). entry_bytes (entry_of j) ++ z) (drop-drop 8 (entry_at j) b ∙ ap (λ (k : ℕ). drop k b) (omega arith))
      in
      let entries = drop_is_flat (λ j. entry_bytes (entry_of j)) b entry_at n each in
      let whole = f.whole in
      let head = f.head in
      let place : drop (place_at b) b ≡ byte b (place_at b) ∷ [] =
      drop_more b (place_at b) 0 (omega arith) ∙ ap (λ (z : List ℕ). byte b (place_at b) ∷ z) (drop_all (place_at b + 1) b (omega arith))
      in
      let at_0 = drop_word b small 0 (word b 0) (omega arith) refl in
      let at_2 = drop_word b small 2 (word b 2) (omega arith) refl in
      let at_4 = drop_more b 4 0 (omega arith) in
      cc

  workshop_at : (i : ℕ) → i < count_in b → get_or (map workshop_of (table entry_of (count_in b))) i 0 ≡ byte b (entry_at i)
  unfolding entry_of
  workshop_at i l =
      get_or-map workshop_of (table entry_of (count_in b)) i blank 0 (omega (arith, length_table entry_of (count_in b)))
      ∙ ap workshop_of (getD_table entry_of (count_in b) i blank l)
      ∙ byte_of_drop b (entry_at i)

  pub well_formed_in : WellFormed (letter_in b)
  unfolding entry_of
  well_formed_in =
      let n = count_in b in
      let count = length_table entry_of n in
      record {
        applicant = word_small b small 0;
        lot = word_small b small 2;
        few = rw count f.few;
        small = All-from_get_or SmallEntry (table entry_of n) blank (λ i l.
            let here = f.listed i (omega arith) in
            rw (getD_table entry_of n i blank (omega arith)) (small_in (part_at b i) (bytes_from b (entry_at i) small) here.2));
        distinct = apart_no_repeat (map workshop_of (table entry_of n)) (λ i j l s e.
            let long = length-map (table entry_of n) workshop_of in
            let same = sym (workshop_at i (omega arith)) ∙ e ∙ workshop_at j (omega arith) in
            not_from_Decides _ (workshop_seen_decides b (byte b (entry_at j)) j) (f.listed j (omega arith)).1 (i, l, same));
        place = rw count f.place;
      }

pub letter_same : (m : Letter) (applicant lot : ℕ) (entries : List Entry) (place : ℕ) →
    applicant ≡ m.applicant → lot ≡ m.lot → entries ≡ m.entries → place ≡ m.place →
    ◌≡◌ {A = Letter} (record { applicant = applicant; lot = lot; entries = entries; place = place }) m
letter_same m applicant lot entries place e f g h = rw (e, f, g, h)

-- what is written is read without a fault as it was
module _ (l : Letter) (good : WellFormed l) where
  abbrev bytes : List ℕ
  bytes = encode_letter l

  nth : ℕ → Entry
  nth j = get_or l.entries j blank

  abbrev count : ℕ
  count = length l.entries

  entries_are : l.entries ≡ table nth count
  unfolding nth
  entries_are = is_table nth l.entries count blank refl (λ k h. refl)

  behind_head : drop 5 bytes ≡ flat (λ j. entry_bytes (nth j)) count ++ (l.place ∷ [])
  unfolding encode_letter
  behind_head =
      ap (λ (xs : List ℕ). xs ++ (l.place ∷ [])) (ap (flat_map entry_bytes) entries_are ∙ joined_table entry_bytes nth count)

  part_is : (j : ℕ) → j < count → (rest : List ℕ) × (part_at bytes j ≡ entry_bytes (nth j) ++ rest)
  part_is j h =
      let found = drop_flat_at (λ k. entry_bytes (nth k)) (λ k. 8 * k) count refl (λ k s. omega arith) (l.place ∷ []) j h in
      (found.0, sym (drop-drop (8 * j) 5 bytes) ∙ ap (drop (8 * j)) behind_head ∙ found.1)

  place_is : byte bytes (5 + 8 * count) ≡ l.place
  place_is =
      let found = drop_flat_all (λ k. entry_bytes (nth k)) (λ k. 8 * k) count refl (λ k s. omega arith) (l.place ∷ []) in
      sym (byte_of_drop bytes (5 + 8 * count))
      ∙ ap (λ (xs : List ℕ). get_or xs 0 0) (sym (drop-drop (8 * count) 5 bytes) ∙ ap (drop (8 * count)) behind_head ∙ found)

  workshop_is : (j : ℕ) → j < count → get_or (map workshop_of l.entries) j 0 ≡ byte bytes (entry_at j)
  unfolding nth
  workshop_is j h =
      get_or-map workshop_of l.entries j blank 0 h
      ∙ ap (λ (xs : List ℕ). get_or xs 0 0) (sym (part_is j h).1)
      ∙ byte_of_drop bytes (entry_at j)

  unseen : (j : ℕ) → j < count → workshop_seen bytes (byte bytes (entry_at j)) j ≡ false
  unseen j h =
      false_from_decides _ (workshop_seen_decides bytes (byte bytes (entry_at j)) j) (λ p.
      no_repeat_apart (map workshop_of l.entries) good.distinct p.0 j p.1 (omega (arith, length-map l.entries workshop_of))
      (workshop_is p.0 (omega (arith, p.1)) ∙ p.2 ∙ sym (workshop_is j h)))

  clean_at : (j : ℕ) → j < count → Clean (part_at bytes j)
  clean_at j h = let found = part_is j h in rw found.1 (clean_entry_bytes (nth j) found.0)

  entry_is : (j : ℕ) → j < count → entry_in (part_at bytes j) ≡ nth j
  entry_is j h = let found = part_is j h in ap entry_in found.1 ∙ entry_in_entry_bytes (nth j) found.0

  pub formed_encode : Formed bytes
  unfolding encode_letter
  formed_encode =
      let whole = length_encode_letter l in
      record {
        head = omega arith;
        few = good.few;
        listed = λ j h. (omega arith, unseen j h, clean_at j h);
        place = rw place_is good.place;
        whole = omega arith;
      }

  pub letter_in_encode : letter_in bytes ≡ l
  unfolding encode_letter nth
  letter_in_encode =
      let entries = is_table (λ j. entry_in (part_at bytes j)) l.entries count blank refl (λ k h. sym (entry_is k h)) in
      letter_same l _ _ _ _ (word_two_bytes l.applicant) (word_two_bytes l.lot) (sym entries) place_is
