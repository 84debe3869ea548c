-- The tables that bytes say, number by number.
use Rattle.std.proofs.Common.{◌≡◌, ℕ, ◌+◌, ◌<◌, ◌≤◌, List, length, get_or, drop, ap, ◌∙◌, arith}
use Rattle.std.proofs.lemmas.List.{length-take-le, length-drop, get_or-take, get_or-drop}
use Rattle.layout.specs.Tables.{places_at, list_length, list_at}
use Rattle.layout.specs.Bytes.{byte, applicants_in, workshops_in, places_from, lot_in, count_in, entry_in, rows_in, row_applicant_in, row_points_in, seats_before, start_of, rows_before, tables_in}
use Rattle.layout.proofs.Flats.{length_table, getD_table}
use Rattle.layout.proofs.Offsets.{seats_before_more, start_of_more, start_of_mono, length_entries_below, getD_entries_below}

module _ (b : List ℕ) where
  pub length_seats : length (tables_in b).seats ≡ workshops_in b + 1
  unfolding tables_in
  length_seats = length_table (seats_before b) (workshops_in b + 1)

  pub length_lots : length (tables_in b).lots ≡ applicants_in b
  unfolding tables_in
  length_lots = length_table (lot_in b) (applicants_in b)

  pub length_starts : length (tables_in b).starts ≡ applicants_in b + 1
  unfolding tables_in
  length_starts = length_table (start_of b) (applicants_in b + 1)

  pub length_entries : length (tables_in b).entries ≡ start_of b (applicants_in b)
  unfolding tables_in
  length_entries = length_entries_below b (applicants_in b)

  pub length_row_starts : length (tables_in b).row_starts ≡ workshops_in b + 1
  unfolding tables_in
  length_row_starts = length_table (λ w. rows_before b w (rows_in b)) (workshops_in b + 1)

  pub length_row_applicants : length (tables_in b).row_applicants ≡ rows_in b
  unfolding tables_in
  length_row_applicants = length_table (row_applicant_in b) (rows_in b)

  pub length_row_points : length (tables_in b).row_points ≡ rows_in b
  unfolding tables_in
  length_row_points = length_table (row_points_in b) (rows_in b)

  pub seats_at : (w : ℕ) → w ≤ workshops_in b → get_or (tables_in b).seats w 0 ≡ seats_before b w
  unfolding tables_in
  seats_at w l = getD_table (seats_before b) (workshops_in b + 1) w 0 (omega arith)

  pub lots_at : (a : ℕ) → a < applicants_in b → get_or (tables_in b).lots a 0 ≡ lot_in b a
  unfolding tables_in
  lots_at a l = getD_table (lot_in b) (applicants_in b) a 0 l

  pub starts_at : (a : ℕ) → a ≤ applicants_in b → get_or (tables_in b).starts a 0 ≡ start_of b a
  unfolding tables_in
  starts_at a l = getD_table (start_of b) (applicants_in b + 1) a 0 (omega arith)

  pub entries_at : (a j : ℕ) → a < applicants_in b → j < count_in b a → get_or (tables_in b).entries (start_of b a + j) 0 ≡ entry_in b a j
  unfolding tables_in
  entries_at a j l h = getD_entries_below b (applicants_in b) a j l h

  pub row_starts_at : (w : ℕ) → w ≤ workshops_in b → get_or (tables_in b).row_starts w 0 ≡ rows_before b w (rows_in b)
  unfolding tables_in
  row_starts_at w l = getD_table (λ w. rows_before b w (rows_in b)) (workshops_in b + 1) w 0 (omega arith)

  pub row_applicants_at : (i : ℕ) → i < rows_in b → get_or (tables_in b).row_applicants i 0 ≡ row_applicant_in b i
  unfolding tables_in
  row_applicants_at i l = getD_table (row_applicant_in b) (rows_in b) i 0 l

  pub row_points_at : (i : ℕ) → i < rows_in b → get_or (tables_in b).row_points i 0 ≡ row_points_in b i
  unfolding tables_in
  row_points_at i l = getD_table (row_points_in b) (rows_in b) i 0 l

  -- a workshop's places, and an applicant's entries, from the sums
  pub seats_more : (w : ℕ) → w < workshops_in b →
      get_or (tables_in b).seats (w + 1) 0 ≡ get_or (tables_in b).seats w 0 + byte b (places_from + w)
  seats_more w l = omega (arith, seats_at w (omega arith), seats_at (w + 1) (omega arith), seats_before_more b w)

  pub starts_more : (a : ℕ) → a < applicants_in b → get_or (tables_in b).starts (a + 1) 0 ≡ get_or (tables_in b).starts a 0 + count_in b a
  starts_more a l = omega (arith, starts_at a (omega arith), starts_at (a + 1) (omega arith), start_of_more b a)

  pub places_told : (w : ℕ) → w < workshops_in b → places_at (tables_in b) w ≡ byte b (places_from + w)
  places_told w l = omega (arith, seats_more w l)

  pub list_length_told : (a : ℕ) → a < applicants_in b → list_length (tables_in b) a ≡ count_in b a
  list_length_told a l = omega (arith, starts_more a l)

  pub length_list : (a : ℕ) → a < applicants_in b → length (list_at (tables_in b) a) ≡ count_in b a
  length_list a l =
      let from = get_or (tables_in b).starts a 0 in
      let end = start_of_mono b (a + 1) (applicants_in b) (omega arith) in
      length-take-le (list_length (tables_in b) a) (drop from (tables_in b).entries)
      (omega (
        arith,
        length-drop from (tables_in b).entries,
        length_entries,
        starts_more a l,
        starts_at (a + 1) (omega arith),
      ))
      ∙ list_length_told a l

  pub list_told : (a j : ℕ) → a < applicants_in b → j < count_in b a → get_or (list_at (tables_in b) a) j 0 ≡ entry_in b a j
  list_told a j l h =
      get_or-take (list_length (tables_in b) a) (drop (get_or (tables_in b).starts a 0) (tables_in b).entries) j 0 (omega (arith, list_length_told a l))
      ∙ get_or-drop (get_or (tables_in b).starts a 0) (tables_in b).entries j 0
      ∙ ap (λ (x : ℕ). get_or (tables_in b).entries (x + j) 0) (starts_at a (omega arith))
      ∙ entries_at a j l h
