-- Bytes say tables: each number of the bytes, where it stands, is the table's. It holds of the bytes without a fault and the tables
-- read from them, and of the bytes that tables are written as.
use Rattle.std.proofs.Common.{◌≡◌, ℕ, ◌+◌, ◌<◌, ◌≤◌, List, length, get_or, sym, arith}
use Rattle.layout.specs.Tables.{Tables, applicants, workshops, rows, places_at, list_length}
use Rattle.layout.specs.Bytes.{byte, applicants_in, workshops_in, places_from, lot_in, count_in, entry_in, rows_in, row_at, row_workshop_in, row_applicant_in, row_points_in, tables_in}
use Rattle.layout.proofs.Offsets.{rows_before_le}
use Rattle.layout.proofs.Clean.{Clean}
use Rattle.layout.proofs.ReadProper.{workshop_of_row}
use Rattle.layout.proofs.Told.{length_seats, length_lots, length_row_applicants, lots_at, starts_at, entries_at, row_starts_at, row_applicants_at, row_points_at, places_told, list_length_told}

pub record Says (b : List ℕ) (t : Tables) : Type 0 where
  pub applicants_is : applicants_in b ≡ applicants t
  pub workshops_is : workshops_in b ≡ workshops t
  pub rows_is : rows_in b ≡ rows t
  pub place_is : (w : ℕ) → w < workshops t → byte b (places_from + w) ≡ places_at t w
  pub lot_is : (a : ℕ) → a < applicants t → lot_in b a ≡ get_or t.lots a 0
  pub count_is : (a : ℕ) → a < applicants t → count_in b a ≡ list_length t a
  pub entry_is : (a j : ℕ) → a < applicants t → j < list_length t a → entry_in b a j ≡ get_or t.entries (get_or t.starts a 0 + j) 0
  pub workshop_is : (w i : ℕ) → w < workshops t → get_or t.row_starts w 0 ≤ i → i < get_or t.row_starts (w + 1) 0 →
      row_workshop_in b i ≡ w
  pub applicant_is : (i : ℕ) → i < rows t → row_applicant_in b i ≡ get_or t.row_applicants i 0
  pub points_is : (i : ℕ) → i < rows t → row_points_in b i ≡ get_or t.row_points i 0
  pub whole : length b ≡ row_at b (rows_in b)

pub says_read : (b : List ℕ) → Clean b → Says b (tables_in b)
says_read b c =
    let n_is = length_lots b in
    let m_is : workshops_in b ≡ workshops (tables_in b) = omega (arith, length_seats b) in
    let r_is = length_row_applicants b in
    record {
      applicants_is = sym n_is;
      workshops_is = m_is;
      rows_is = sym r_is;
      place_is = λ w l. sym (places_told b w (omega arith));
      lot_is = λ a l. sym (lots_at b a (omega arith));
      count_is = λ a l. sym (list_length_told b a (omega arith));
      entry_is = λ a j l k.
          rw (starts_at b a (omega arith)) (sym (entries_at b a j (omega arith) (omega (arith, list_length_told b a (omega arith)))));
      workshop_is = λ w i l low high.
          let from = row_starts_at b w (omega arith) in
          let to = row_starts_at b (w + 1) (omega arith) in
          let within = rows_before_le b (w + 1) (rows_in b) in
          workshop_of_row b c w i (omega arith) (omega arith) (omega arith);
      applicant_is = λ i l. sym (row_applicants_at b i (omega arith));
      points_is = λ i l. sym (row_points_at b i (omega arith));
      whole = c.whole;
    }
