-- Bytes without a fault, as facts about their numbers in place of tests: the two say the same.
use Rattle.std.proofs.Common.{◌≡◌, ℕ, zero, suc, ◌+◌, ◌<◌, ◌≤◌, false, ◌⊎◌, List, length, None, refl, add-one, arith}
use Rattle.std.proofs.lemmas.Bool.Decides.{nat_tests, not_from_Decides}
use Rattle.layout.specs.Tables.{most_applicants, most_workshops, most_places, most_entries, most_rows}
use Rattle.layout.specs.Bytes.{byte, applicants_in, workshops_in, places_from, lot_in, count_in, entry_in, rows_from, rows_in, row_at, row_workshop_in, row_applicant_in, row_points_in, first_of, head_fault, places_fault, lot_seen, entry_seen, entry_fault, record_fault, rows_fault, out_of_order, row_fault, end_fault, fault}
use Rattle.layout.proofs.Firsts.{or_else_none, none_or_else, first_of_none, none_first_of}
use Rattle.layout.proofs.Offsets.{record_at_none, record_at_mono, record_there}
use Rattle.layout.proofs.Seen.{false_from_decides, lot_seen_decides, entry_seen_decides}

-- row i + 1 comes after row i: by workshop, then by applicant
abbrev pub After : List ℕ → ℕ → Type 0
After b i =
    (row_workshop_in b i < row_workshop_in b (i + 1))
    ⊎ ((row_workshop_in b i ≡ row_workshop_in b (i + 1)) × (row_applicant_in b i < row_applicant_in b (i + 1)))

pub record Clean (b : List ℕ) : Type 0 where
  pub few_applicants : applicants_in b ≤ most_applicants
  pub some_workshop : 0 < workshops_in b
  pub few_workshops : workshops_in b ≤ most_workshops
  pub few_places : (w : ℕ) → w < workshops_in b → byte b (places_from + w) ≤ most_places
  pub lots_apart : (a c : ℕ) → a < applicants_in b → c < a → lot_in b c ≡ lot_in b a → ⊥
  pub few_entries : (a : ℕ) → a < applicants_in b → count_in b a ≤ most_entries
  pub entries_named : (a j : ℕ) → a < applicants_in b → j < count_in b a → entry_in b a j < workshops_in b
  pub entries_apart : (a i j : ℕ) → a < applicants_in b → j < count_in b a → i < j → entry_in b a i ≡ entry_in b a j → ⊥
  pub few_rows : rows_in b ≤ most_rows
  pub rows_workshop : (i : ℕ) → i < rows_in b → row_workshop_in b i < workshops_in b
  pub rows_applicant : (i : ℕ) → i < rows_in b → row_applicant_in b i < applicants_in b
  pub rows_points : (i : ℕ) → i < rows_in b → 0 < row_points_in b i
  pub rows_order : (i : ℕ) → i + 1 < rows_in b → After b i
  pub whole : length b ≡ row_at b (rows_in b)

-- the parts of a fault of a record, of an entry and of a row, each under a name
pub record CleanRecord (b : List ℕ) (a : ℕ) : Type 0 where
  pub lot_apart : (c : ℕ) → c < a → lot_in b c ≡ lot_in b a → ⊥
  pub few : count_in b a ≤ most_entries
  pub each : (j : ℕ) → j < count_in b a →
      (entry_in b a j < workshops_in b) × ((i : ℕ) → i < j → entry_in b a i ≡ entry_in b a j → ⊥)

pub record CleanRow (b : List ℕ) (i : ℕ) : Type 0 where
  pub workshop : row_workshop_in b i < workshops_in b
  pub applicant : row_applicant_in b i < applicants_in b
  pub points : 0 < row_points_in b i
  pub order : out_of_order b i ≡ false
  pub there : row_at b i + 5 ≤ length b

module _ (b : List ℕ) where
  -- From no fault.
  entry_clean : (a j : ℕ) → entry_fault b a j ≡ None →
      (entry_in b a j < workshops_in b) × ((i : ℕ) → i < j → entry_in b a i ≡ entry_in b a j → ⊥)
  entry_clean a j h =
      let unseen : entry_seen b a (entry_in b a j) j ≡ false = grind arith in
      (grind (arith, nat_tests), λ i l e. not_from_Decides _ (entry_seen_decides b a (entry_in b a j) j) unseen (i, l, e))

  record_clean : (a : ℕ) → record_fault b a ≡ None → CleanRecord b a
  record_clean a h =
      let unseen : lot_seen b (lot_in b a) a ≡ false = grind arith in
      let entries : first_of (entry_fault b a) (count_in b a) ≡ None = grind arith in
      record {
        lot_apart = λ c l e. not_from_Decides _ (lot_seen_decides b (lot_in b a) a) unseen (c, l, e);
        few = grind (arith, nat_tests);
        each = λ j l. entry_clean a j (first_of_none (entry_fault b a) (count_in b a) entries j l);
      }

  row_clean : (i : ℕ) → row_fault b i ≡ None → CleanRow b i
  row_clean i h =
      record {
        workshop = grind (arith, nat_tests);
        applicant = grind (arith, nat_tests);
        points = grind (arith, nat_tests);
        order = grind (arith, nat_tests);
        there = grind (arith, nat_tests);
      }

  -- what the faults of the whole are made of
  parts : fault b ≡ None →
      (head_fault b ≡ None)
      × (first_of (places_fault b) (workshops_in b) ≡ None)
      × (first_of (record_fault b) (applicants_in b) ≡ None)
      × (rows_fault b ≡ None)
      × (first_of (row_fault b) (rows_in b) ≡ None)
      × (end_fault b ≡ None)
  unfolding fault
  parts h =
      let head = or_else_none (head_fault b) _ h in
      let places = or_else_none (first_of (places_fault b) (workshops_in b)) _ head.1 in
      let records = or_else_none (first_of (record_fault b) (applicants_in b)) _ places.1 in
      let count = or_else_none (rows_fault b) _ records.1 in
      let rows = or_else_none (first_of (row_fault b) (rows_in b)) (end_fault b) count.1 in
      (head.0, places.0, records.0, count.0, rows.0, rows.1)

  in_order : (i : ℕ) → out_of_order b (i + 1) ≡ false → After b i
  unfolding out_of_order
  in_order i h = let t = rw (add-one i) at h in rw (add-one i) (grind (arith, nat_tests))

  -- the last row is there, or where there is none their number
  rows_there : (r : ℕ) → rows_from b + 2 ≤ length b → ((i : ℕ) → i < r → row_at b i + 5 ≤ length b) → row_at b r ≤ length b
  rows_there zero number each = omega arith
  rows_there (suc r) number each = omega (arith, each r (omega arith))

  pub clean_from_none : fault b ≡ None → Clean b
  clean_from_none h =
      let p = parts h in
      let head = p.0 in
      let records : (a : ℕ) → a < applicants_in b → CleanRecord b a =
      λ a l. record_clean a (first_of_none (record_fault b) (applicants_in b) p.2 a l)
      in
      let rows : (i : ℕ) → i < rows_in b → CleanRow b i = λ i l. row_clean i (first_of_none (row_fault b) (rows_in b) p.4 i l) in
      record {
        few_applicants = grind (arith, nat_tests);
        some_workshop = grind (arith, nat_tests);
        few_workshops = grind (arith, nat_tests);
        few_places = λ w l. let f = first_of_none (places_fault b) (workshops_in b) p.1 w l in grind (arith, nat_tests);
        lots_apart = λ a c l. (records a l).lot_apart c;
        few_entries = λ a l. (records a l).few;
        entries_named = λ a j l k. ((records a l).each j k).0;
        entries_apart = λ a i j l k s. ((records a l).each j k).1 i s;
        few_rows = let f = p.3 in grind (arith, nat_tests);
        rows_workshop = λ i l. (rows i l).workshop;
        rows_applicant = λ i l. (rows i l).applicant;
        rows_points = λ i l. (rows i l).points;
        rows_order = λ i l. in_order i (rows (i + 1) l).order;
        whole =
            let number = p.3 in
            let end = p.5 in
            let there = rows_there (rows_in b) (grind (arith, nat_tests)) (λ i l. (rows i l).there) in
            grind (arith, nat_tests);
      }

  -- To no fault.
  entry_none : Clean b → (a j : ℕ) → a < applicants_in b → j < count_in b a → entry_fault b a j ≡ None
  entry_none c a j l k =
      let seen = false_from_decides _ (entry_seen_decides b a (entry_in b a j) j) (λ s. c.entries_apart a s.0 j l k s.1 s.2) in
      let named = c.entries_named a j l k in
      let there = record_there b c.whole a l in
      grind (arith, nat_tests)

  record_none : Clean b → (a : ℕ) → a < applicants_in b → record_fault b a ≡ None
  record_none c a l =
      let seen = false_from_decides _ (lot_seen_decides b (lot_in b a) a) (λ s. c.lots_apart a s.0 l s.1 s.2) in
      let entries = none_first_of (entry_fault b a) (count_in b a) (λ j k. entry_none c a j l k) in
      let few = c.few_entries a l in
      let there = record_there b c.whole a l in
      grind (arith, nat_tests)

  order_none : (i : ℕ) → After b i → out_of_order b (suc i) ≡ false
  unfolding out_of_order
  order_none i h = let t = rw (add-one i) at h in grind (arith, nat_tests)

  row_none : Clean b → (i : ℕ) → i < rows_in b → out_of_order b i ≡ false → row_fault b i ≡ None
  row_none c i l order =
      let workshop = c.rows_workshop i l in
      let applicant = c.rows_applicant i l in
      let points = c.rows_points i l in
      let whole = c.whole in
      grind (arith, nat_tests)

  order_of : Clean b → (i : ℕ) → i < rows_in b → out_of_order b i ≡ false
  unfolding out_of_order
  order_of c zero l = refl
  order_of c (suc i) l = order_none i (c.rows_order i (omega arith))

  place_none : Clean b → (w : ℕ) → w < workshops_in b → places_fault b w ≡ None
  place_none c w l =
      let few = c.few_places w l in
      let begins = record_at_mono b 0 (applicants_in b) (omega arith) in
      let first = record_at_none b in
      let whole = c.whole in
      grind (arith, nat_tests)

  pub none_from_clean : Clean b → fault b ≡ None
  unfolding fault
  none_from_clean c =
      let begins = record_at_mono b 0 (applicants_in b) (omega arith) in
      let first = record_at_none b in
      let whole = c.whole in
      none_or_else (head_fault b) _ (grind (arith, nat_tests))
      (none_or_else (first_of (places_fault b) (workshops_in b)) _ (none_first_of (places_fault b) (workshops_in b) (λ w l. place_none c w l))
      (none_or_else (first_of (record_fault b) (applicants_in b)) _ (none_first_of (record_fault b) (applicants_in b) (λ a l. record_none c a l))
      (none_or_else (rows_fault b) _ (grind (arith, nat_tests))
      (none_or_else (first_of (row_fault b) (rows_in b)) (end_fault b) (none_first_of (row_fault b) (rows_in b) (λ i l. row_none c i l (order_of c i l)))
      (grind (arith, nat_tests))))))
