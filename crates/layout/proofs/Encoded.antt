-- The bytes that proper tables are written as say these tables.
use Rattle.std.proofs.Common.{◌≡◌, ℕ, zero, suc, ◌+◌, ◌-◌, ◌*◌, ◌/◌, ◌%◌, ◌<◌, ◌≤◌, List, [], ◌++◌, length, get_or, drop, sym, refl, ap, ◌∙◌, add-zero, add-one, arith}
use Rattle.std.proofs.lemmas.List.{append-nil, length-append, get_or-drop, get_or_append_left, drop_at, drop-drop}
use Rattle.layout.specs.Slices.{table, flat}
use Rattle.layout.specs.Tables.{Tables, Proper, applicants, workshops, rows, places_at, list_length, list_at}
use Rattle.layout.specs.Bytes.{byte, word, applicants_in, workshops_in, places_from, record_at, lot_in, count_in, entry_in, rows_from, rows_in, row_at, row_workshop_in, row_applicant_in, row_points_in}
use Rattle.layout.specs.Encode.{two_bytes, record_bytes, row_bytes, sheet_bytes, encode}
use Rattle.layout.proofs.Flats.{length_table, getD_table, length_flat, drop_flat_at, drop_flat_all}
use Rattle.layout.proofs.OfProper.{length_list_at, getD_list_at, sheet_of}
use Rattle.layout.proofs.Says.{Says}

-- what stands k behind p
pub byte_behind : (b : List ℕ) (p k : ℕ) (ys : List ℕ) → drop p b ≡ ys → byte b (p + k) ≡ get_or ys k 0
byte_behind b p k ys e = sym (get_or-drop p b k 0) ∙ ap (λ (x : List ℕ). get_or x k 0) e

-- a number of two bytes k behind p
pub word_behind : (b : List ℕ) (p k x : ℕ) (ys zs : List ℕ) → drop p b ≡ ys → drop k ys ≡ two_bytes x ++ zs → word b (p + k) ≡ x
word_behind b p k x ys zs e f =
    let at : drop (p + k) b ≡ two_bytes x ++ zs = sym (drop-drop k p b) ∙ ap (λ (l : List ℕ). drop k l) e ∙ f in
    let low : get_or b (p + k + 0) 0 ≡ x % 256 = byte_behind b (p + k) 0 _ at in
    let high : get_or b (p + k + 1) 0 ≡ x / 256 = byte_behind b (p + k) 1 _ at in
    let here : p + k + 0 ≡ p + k = omega arith in
    let low_here = rw here at low in
    omega arith

module _ (t : Tables) (p : Proper t) where
  -- where record a and the rows of workshop w begin, among the records and among the rows
  abbrev record_start : ℕ → ℕ
  record_start a = 3 * a + get_or t.starts a 0

  abbrev sheet_start : ℕ → ℕ
  sheet_start w = 5 * get_or t.row_starts w 0

  record_start_none : record_start 0 ≡ 0
  record_start_none = omega (arith, p.started.1)

  sheet_start_none : sheet_start 0 ≡ 0
  sheet_start_none = omega (arith, p.sheeted.1)

  record_start_more : (a : ℕ) → a < applicants t → record_start (a + 1) ≡ record_start a + length (record_bytes t a)
  record_start_more a l = omega (arith, p.started.2 a l, length_list_at t p a l)

  length_sheet : (w n : ℕ) → length (flat (λ k. row_bytes t w (get_or t.row_starts w 0 + k)) n) ≡ 5 * n
  length_sheet w n = length_flat (λ k. row_bytes t w (get_or t.row_starts w 0 + k)) (λ k. 5 * k) n refl (λ k _. omega arith)

  sheet_start_more : (w : ℕ) → w < workshops t → sheet_start (w + 1) ≡ sheet_start w + length (sheet_bytes t w)
  sheet_start_more w l =
      omega (arith, p.sheeted.2 w l, length_sheet w (get_or t.row_starts (w + 1) 0 - get_or t.row_starts w 0))

  -- the bytes from the number of rows on, and from the records on
  abbrev from_rows : List ℕ
  from_rows = two_bytes (rows t) ++ flat (sheet_bytes t) (workshops t)

  abbrev from_records : List ℕ
  from_records = flat (record_bytes t) (applicants t) ++ from_rows

  drop_places : drop 4 (encode t) ≡ table (places_at t) (workshops t) ++ from_records
  unfolding encode
  drop_places = refl

  drop_records : drop (4 + workshops t) (encode t) ≡ from_records
  drop_records =
      sym (drop-drop (workshops t) 4 (encode t))
      ∙ ap (λ (l : List ℕ). drop (workshops t) l) drop_places
      ∙ drop_at (table (places_at t) (workshops t)) from_records (workshops t) (length_table (places_at t) (workshops t))

  drop_record : (a : ℕ) → a < applicants t → (rest : List ℕ) × (drop (4 + workshops t + record_start a) (encode t) ≡ record_bytes t a ++ rest)
  drop_record a l =
      let (rest, at) = drop_flat_at (record_bytes t) record_start (applicants t) record_start_none record_start_more from_rows a l in
      (rest, (sym (drop-drop (record_start a) (4 + workshops t) (encode t)) ∙ ap (λ (x : List ℕ). drop (record_start a) x) drop_records ∙ at))

  drop_number : drop (4 + workshops t + record_start (applicants t)) (encode t) ≡ from_rows
  drop_number =
      sym (drop-drop (record_start (applicants t)) (4 + workshops t) (encode t))
      ∙ ap (λ (x : List ℕ). drop (record_start (applicants t)) x) drop_records
      ∙ drop_flat_all (record_bytes t) record_start (applicants t) record_start_none record_start_more from_rows

  applicants_in_encode : applicants_in (encode t) ≡ applicants t
  unfolding encode
  applicants_in_encode = omega arith

  workshops_in_encode : workshops_in (encode t) ≡ workshops t
  unfolding encode
  workshops_in_encode = omega arith

  place_in_encode : (w : ℕ) → w < workshops t → byte (encode t) (places_from + w) ≡ places_at t w
  place_in_encode w l =
      byte_behind (encode t) 4 w _ drop_places
      ∙ get_or_append_left (table (places_at t) (workshops t)) from_records 0 w (omega (arith, length_table (places_at t) (workshops t)))
      ∙ getD_table (places_at t) (workshops t) w 0 l

  record_at_encode : (a : ℕ) → a ≤ applicants t → record_at (encode t) a ≡ 4 + workshops t + record_start a
  unfolding record_at
  record_at_encode zero l = omega (arith, workshops_in_encode, p.started.1)
  record_at_encode (suc a) l =
      let up = rw (add-one a) at (p.started.2 a l) in
      let count = rw (add-one a) at (byte_behind (encode t) (4 + workshops t + record_start a) 2 _ (drop_record a l).1) in
      rw (record_at_encode a (omega arith)) (omega arith)

  -- a's record stands where it is looked for
  at_record : (a : ℕ) → a < applicants t → (rest : List ℕ) × (drop (record_at (encode t) a) (encode t) ≡ record_bytes t a ++ rest)
  at_record a l = rw (record_at_encode a (omega arith)) (drop_record a l)

  lot_in_encode : (a : ℕ) → a < applicants t → lot_in (encode t) a ≡ get_or t.lots a 0
  lot_in_encode a l = rw add-zero at (word_behind (encode t) (record_at (encode t) a) 0 (get_or t.lots a 0) _ _ (at_record a l).1 refl)

  count_in_encode : (a : ℕ) → a < applicants t → count_in (encode t) a ≡ list_length t a
  count_in_encode a l = byte_behind (encode t) (record_at (encode t) a) 2 _ (at_record a l).1

  entry_in_encode : (a j : ℕ) → a < applicants t → j < list_length t a →
      entry_in (encode t) a j ≡ get_or t.entries (get_or t.starts a 0 + j) 0
  entry_in_encode a j l h =
      let (rest, at) = at_record a l in
      let place : record_at (encode t) a + 3 + j ≡ record_at (encode t) a + suc (suc (suc j)) = omega arith in
      rw place
      (byte_behind (encode t) (record_at (encode t) a) (suc (suc (suc j))) _ at
      ∙ get_or_append_left (list_at t a) rest 0 j (omega (arith, length_list_at t p a l))
      ∙ getD_list_at t p a j h)

  rows_from_encode : rows_from (encode t) ≡ 4 + workshops t + record_start (applicants t)
  rows_from_encode = rw applicants_in_encode (record_at_encode (applicants t) (omega arith))

  at_number : drop (rows_from (encode t)) (encode t) ≡ from_rows
  at_number = rw rows_from_encode drop_number

  rows_in_encode : rows_in (encode t) ≡ rows t
  rows_in_encode = rw add-zero at (word_behind (encode t) (rows_from (encode t)) 0 (rows t) _ _ at_number refl)

  at_sheets : drop (rows_from (encode t) + 2) (encode t) ≡ flat (sheet_bytes t) (workshops t)
  at_sheets = sym (drop-drop 2 (rows_from (encode t)) (encode t)) ∙ ap (λ (x : List ℕ). drop 2 x) at_number

  -- row i, of workshop w, stands where it is looked for
  at_row : (w i : ℕ) → w < workshops t → get_or t.row_starts w 0 ≤ i → i < get_or t.row_starts (w + 1) 0 →
      (rest : List ℕ) × (drop (row_at (encode t) i) (encode t) ≡ row_bytes t w i ++ rest)
  at_row w i l low high =
      let from = get_or t.row_starts w 0 in
      let count = get_or t.row_starts (w + 1) 0 - from in
      let k = i - from in
      let all = flat (sheet_bytes t) (workshops t) in
      let (others, sheet) = drop_flat_at (sheet_bytes t) sheet_start (workshops t) sheet_start_none sheet_start_more [] w l in
      let (rest, row) = drop_flat_at (λ j. row_bytes t w (from + j)) (λ j. 5 * j) count refl (λ j _. omega arith) others k (omega arith) in
      let i_is : from + k ≡ i = omega arith in
      let place : row_at (encode t) i ≡ rows_from (encode t) + 2 + (5 * from + 5 * k) = omega arith in (
        rest,
        rw place
            (sym (drop-drop (5 * from + 5 * k) (rows_from (encode t) + 2) (encode t))
            ∙ ap (λ (x : List ℕ). drop (5 * from + 5 * k) x) at_sheets
            ∙ sym (drop-drop (5 * k) (5 * from) all)
            ∙ ap (λ (x : List ℕ). drop (5 * k) x) (rw append-nil at sheet)
            ∙ rw i_is at row),
      )

  workshop_in_encode : (w i : ℕ) → w < workshops t → get_or t.row_starts w 0 ≤ i → i < get_or t.row_starts (w + 1) 0 →
      row_workshop_in (encode t) i ≡ w
  workshop_in_encode w i l low high =
      rw add-zero at (byte_behind (encode t) (row_at (encode t) i) 0 _ (at_row w i l low high).1)

  applicant_in_encode : (i : ℕ) → i < rows t → row_applicant_in (encode t) i ≡ get_or t.row_applicants i 0
  applicant_in_encode i l =
      let (w, lw, low, high) = sheet_of t p i l in
      word_behind (encode t) (row_at (encode t) i) 1 (get_or t.row_applicants i 0) _ _ (at_row w i lw low high).1 refl

  points_in_encode : (i : ℕ) → i < rows t → row_points_in (encode t) i ≡ get_or t.row_points i 0
  points_in_encode i l =
      let (w, lw, low, high) = sheet_of t p i l in
      word_behind (encode t) (row_at (encode t) i) 3 (get_or t.row_points i 0) _ _ (at_row w i lw low high).1 refl

  pub length_encode : length (encode t) ≡ 6 + workshops t + 3 * applicants t + length t.entries + 5 * rows t
  unfolding encode
  length_encode =
      let records = flat (record_bytes t) (applicants t) in
      let places = table (places_at t) (workshops t) in
      omega (
        arith,
        length-append places from_records,
        length-append records from_rows,
        length_table (places_at t) (workshops t),
        length_flat (record_bytes t) record_start (applicants t) record_start_none record_start_more,
        length_flat (sheet_bytes t) sheet_start (workshops t) sheet_start_none sheet_start_more,
        p.started.4,
        p.sheeted.3,
      )

  pub says_encode : Says (encode t) t
  says_encode =
      record {
        applicants_is = applicants_in_encode;
        workshops_is = workshops_in_encode;
        rows_is = rows_in_encode;
        place_is = place_in_encode;
        lot_is = lot_in_encode;
        count_is = count_in_encode;
        entry_is = entry_in_encode;
        workshop_is = workshop_in_encode;
        applicant_is = applicant_in_encode;
        points_is = points_in_encode;
        whole = omega (arith, length_encode, rows_from_encode, rows_in_encode, p.started.4);
      }
