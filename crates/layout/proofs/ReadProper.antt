-- Tables that are read from bytes without a fault are proper.
use Rattle.std.proofs.Common.{◌≡◌, ℕ, ◌+◌, ◌-◌, ◌^◌, ◌<◌, ◌≤◌, List, length, get_or, sym, ◌∙◌, ⊎_elim, arith}
use Rattle.std.proofs.lemmas.List.{get_or_past}
use Rattle.std.proofs.lemmas.Bool.{cases_lt}
use Rattle.layout.specs.Tables.{Proper, Limited, Seated, Started, Named, Distinct, Drawn, Apart, Sheeted, Rowed, Sorted, applicants, workshops, rows, list_at}
use Rattle.layout.specs.Bytes.{byte, word, applicants_in, workshops_in, record_at, lot_in, count_in, rows_in, row_at, row_workshop_in, seats_before, start_of, rows_before, tables_in}
use Rattle.layout.specs.Encode.{BytesOnly}
use Rattle.layout.proofs.Flats.{step_of}
use Rattle.layout.proofs.Offsets.{start_of_more, rows_before_up, rows_before_le}
use Rattle.layout.proofs.Seen.{apart_no_repeat}
use Rattle.layout.proofs.Clean.{Clean}
use Rattle.layout.proofs.Rows.{rows_before_none, rows_before_all, rows_before_below, rows_before_above}
use Rattle.layout.proofs.Told.{length_seats, length_lots, length_starts, length_entries, length_row_starts, length_row_applicants, length_row_points, seats_at, lots_at, starts_at, entries_at, row_starts_at, row_applicants_at, row_points_at, seats_more, starts_more, length_list, list_told}

-- also past the end, where bytes read as 0
pub byte_small : (b : List ℕ) → BytesOnly b → (k : ℕ) → byte b k < 256
byte_small b small k =
    ⊎_elim (λ (s : k < length b). small k s) (λ (s : length b ≤ k). omega (arith, get_or_past b k 0 s)) (cases_lt k (length b))

pub word_small : (b : List ℕ) → BytesOnly b → (k : ℕ) → word b k < 2 ^ 16
word_small b small k = omega (arith, byte_small b small k, byte_small b small (k + 1))

module _ (b : List ℕ) (c : Clean b) where
  -- rows are sorted by workshop
  pub rows_by_workshop : (i : ℕ) → i + 1 < rows_in b → row_workshop_in b i ≤ row_workshop_in b (i + 1)
  rows_by_workshop i l = let after = c.rows_order i l in omega arith

  -- the rows from w's first up to the next workshop's first are w's
  pub workshop_of_row : (w i : ℕ) → i < rows_in b → rows_before b w (rows_in b) ≤ i → i < rows_before b (w + 1) (rows_in b) →
      row_workshop_in b i ≡ w
  workshop_of_row w i l low high =
      let r = rows_in b in
      let not_below : row_workshop_in b i < w → ⊥ = λ h. omega (arith, rows_before_below b r rows_by_workshop w i l h) in
      let not_above : w + 1 ≤ row_workshop_in b i → ⊥ = λ h. omega (arith, rows_before_above b r rows_by_workshop (w + 1) i l h) in
      grind arith

  -- an index of the tables is one of the bytes
  a_workshop : (w : ℕ) → w < workshops (tables_in b) → w < workshops_in b
  a_workshop w l = omega (arith, length_seats b)

  an_applicant : (a : ℕ) → a < applicants (tables_in b) → a < applicants_in b
  an_applicant a l = omega (arith, length_lots b)

  a_row : (i : ℕ) → i < rows (tables_in b) → i < rows_in b
  a_row i l = omega (arith, length_row_applicants b)

  limited_read : Limited (tables_in b)
  limited_read = omega (arith, c, length_seats b, length_lots b, length_row_applicants b)

  seated_read : Seated (tables_in b)
  unfolding seats_before
  seated_read = (
    seats_at b 0 (omega arith),
    (λ w l. omega (arith, seats_more b w (a_workshop w l))),
    λ w l. omega (arith, seats_more b w (a_workshop w l), c.few_places w (a_workshop w l)),
  )

  started_read : Started (tables_in b)
  unfolding start_of
  started_read = (
    omega (arith, length_starts b, length_lots b),
    starts_at b 0 (omega arith),
    (λ a l. omega (arith, starts_more b a (an_applicant a l))),
    (λ a l. omega (arith, starts_more b a (an_applicant a l), c.few_entries a (an_applicant a l))),
    rw (length_lots b) (starts_at b (applicants_in b) (omega arith) ∙ sym (length_entries b)),
  )

  named_read : Named (tables_in b)
  unfolding start_of
  named_read k l =
      let (a, la, low, high) = step_of (start_of b) (applicants_in b) k (omega arith) (omega (arith, length_entries b)) in
      let more = start_of_more b a in
      let k_is : start_of b a + (k - start_of b a) ≡ k = omega arith in
      let read = rw k_is at (entries_at b a (k - start_of b a) la (omega arith)) in
      omega (arith, c.entries_named a (k - start_of b a) la (omega arith), length_seats b)

  distinct_read : Distinct (tables_in b)
  distinct_read a l =
      let la = an_applicant a l in
      apart_no_repeat (list_at (tables_in b) a)
      (λ i j h s e.
      let lj : j < count_in b a = omega (arith, length_list b a la) in
      c.entries_apart a i j la lj h (sym (list_told b a i la (omega arith)) ∙ e ∙ list_told b a j la lj))

  drawn_read : BytesOnly b → Drawn (tables_in b)
  drawn_read small a l = omega (arith, lots_at b a (an_applicant a l), word_small b small (record_at b a))

  apart_read : Apart (tables_in b)
  apart_read a d (la, ld, e) =
      let na = an_applicant a la in
      let nd = an_applicant d ld in
      let same : lot_in b a ≡ lot_in b d = sym (lots_at b a na) ∙ e ∙ lots_at b d nd in
      let up : a < d → ⊥ = λ h. c.lots_apart d a nd h same in
      let down : d < a → ⊥ = λ h. c.lots_apart a d na h (sym same) in
      grind arith

  row_starts_up : (w : ℕ) → w < workshops_in b → get_or (tables_in b).row_starts w 0 ≤ get_or (tables_in b).row_starts (w + 1) 0
  row_starts_up w l =
      let up = rows_before_up b w (w + 1) (rows_in b) (omega arith) in
      omega (arith, row_starts_at b w (omega arith), row_starts_at b (w + 1) (omega arith))

  row_starts_end : get_or (tables_in b).row_starts (workshops_in b) 0 ≡ rows (tables_in b)
  row_starts_end =
      row_starts_at b (workshops_in b) (omega arith)
      ∙ rows_before_all b (workshops_in b) (rows_in b) c.rows_workshop
      ∙ sym (length_row_applicants b)

  sheeted_read : Sheeted (tables_in b)
  sheeted_read =
      let m_is : workshops (tables_in b) ≡ workshops_in b = omega (arith, length_seats b) in (
        omega (arith, length_row_starts b, length_seats b),
        (row_starts_at b 0 (omega arith) ∙ rows_before_none b (rows_in b)),
        (λ w l. row_starts_up w (a_workshop w l)),
        rw m_is row_starts_end,
      )

  rowed_read : BytesOnly b → Rowed (tables_in b)
  rowed_read small = (
    omega (arith, length_row_points b, length_row_applicants b),
    (λ i l. omega (arith, length_lots b, row_applicants_at b i (a_row i l), c.rows_applicant i (a_row i l))),
    (λ i l. omega (arith, row_points_at b i (a_row i l), c.rows_points i (a_row i l))),
    λ i l. omega (arith, row_points_at b i (a_row i l), word_small b small (row_at b i + 3)),
  )

  sorted_read : Sorted (tables_in b)
  sorted_read w i (l, low, high) =
      let lw = a_workshop w l in
      let from = row_starts_at b w (omega arith) in
      let to = row_starts_at b (w + 1) (omega arith) in
      let within = rows_before_le b (w + 1) (rows_in b) in
      let here = workshop_of_row w i (omega arith) (omega arith) (omega arith) in
      let next = workshop_of_row w (i + 1) (omega arith) (omega arith) (omega arith) in
      let after = c.rows_order i (omega arith) in
      omega (arith, row_applicants_at b i (omega arith), row_applicants_at b (i + 1) (omega arith))

  pub read_proper : BytesOnly b → Proper (tables_in b)
  read_proper small =
      record {
        limited = limited_read;
        seated = seated_read;
        started = started_read;
        named = named_read;
        distinct = distinct_read;
        drawn = drawn_read small;
        apart = apart_read;
        sheeted = sheeted_read;
        rowed = rowed_read small;
        sorted = sorted_read;
      }
