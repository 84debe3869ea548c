-- Bytes that say proper tables are what the tables are written as.
use Rattle.std.proofs.Common.{◌≡◌, ℕ, ◌+◌, ◌-◌, ◌/◌, ◌%◌, ◌<◌, ◌≤◌, List, [], ◌++◌, length, get_or, drop, sym, refl, ap, ◌∙◌, arith}
use Rattle.std.proofs.lemmas.List.{append-nil, drop_more, drop_all}
use Rattle.layout.specs.Slices.{table, flat}
use Rattle.layout.specs.Tables.{Tables, Proper, applicants, workshops, rows, places_at, list_at}
use Rattle.layout.specs.Bytes.{word, applicants_in, record_at, count_in, entry_in, rows_from, row_at}
use Rattle.layout.specs.Encode.{two_bytes, record_bytes, row_bytes, sheet_bytes, encode, BytesOnly}
use Rattle.layout.proofs.Flats.{is_table, drop_table, drop_is_flat}
use Rattle.layout.proofs.Offsets.{record_at_none, record_at_more, record_at_mono, record_there}
use Rattle.layout.proofs.OfProper.{length_list_at, getD_list_at, row_starts_within}
use Rattle.layout.proofs.ReadProper.{byte_small}
use Rattle.layout.proofs.Says.{Says}

-- a number of two bytes, and what follows it
pub drop_word : (b : List ℕ) → BytesOnly b → (p x : ℕ) → p + 2 ≤ length b → word b p ≡ x → drop p b ≡ two_bytes x ++ drop (p + 2) b
drop_word b small p x l e =
    let low : get_or b p 0 ≡ x % 256 = omega (arith, byte_small b small p) in
    let high : get_or b (p + 1) 0 ≡ x / 256 = omega (arith, byte_small b small p) in
    let first = drop_more b p 0 (omega arith) in
    let second = drop_more b (p + 1) 0 (omega arith) in
    let end : p + 1 + 1 ≡ p + 2 = omega arith in
    cc

module _ (b : List ℕ) (t : Tables) (p : Proper t) (s : Says b t) (small : BytesOnly b) where
  list_is : (a : ℕ) → a < applicants t → list_at t a ≡ table (entry_in b a) (count_in b a)
  list_is a l =
      let count = s.count_is a l in
      is_table (entry_in b a) (list_at t a) (count_in b a) 0 (length_list_at t p a l ∙ sym count)
      (λ j h. getD_list_at t p a j (omega arith) ∙ sym (s.entry_is a j l (omega arith)))

  drop_record : (a : ℕ) → a < applicants t → drop (record_at b a) b ≡ record_bytes t a ++ drop (record_at b (a + 1)) b
  drop_record a l =
      let at = record_at b a in
      let there = record_there b s.whole a (omega (arith, s.applicants_is)) in
      let lot = drop_word b small at (get_or t.lots a 0) (omega arith) (s.lot_is a l) in
      let count = drop_more b (at + 2) 0 (omega arith) in
      let count_is = s.count_is a l in
      let entries = drop_table (entry_in b a) b (at + 3) (count_in b a) (omega arith) (λ _ _. refl) in
      let list = list_is a l in
      let next = record_at_more b a in
      let places : at + 2 + 1 ≡ at + 3 = omega arith in
      cc

  drop_row : (w i : ℕ) → w < workshops t → get_or t.row_starts w 0 ≤ i → i < get_or t.row_starts (w + 1) 0 →
      drop (row_at b i) b ≡ row_bytes t w i ++ drop (row_at b (i + 1)) b
  drop_row w i l low high =
      let at = row_at b i in
      let ir : i < rows t = omega (arith, row_starts_within t p (w + 1) (omega arith)) in
      let there : at + 5 ≤ length b = omega (arith, s.whole, s.rows_is) in
      let workshop = drop_more b at 0 (omega arith) in
      let workshop_is = s.workshop_is w i l low high in
      let applicant = drop_word b small (at + 1) (get_or t.row_applicants i 0) (omega arith) (s.applicant_is i ir) in
      let points = drop_word b small (at + 3) (get_or t.row_points i 0) (omega arith) (s.points_is i ir) in
      let behind : at + 1 + 2 ≡ at + 3 = omega arith in
      let next : at + 3 + 2 ≡ row_at b (i + 1) = omega arith in
      cc

  drop_sheet : (w : ℕ) → w < workshops t →
      drop (row_at b (get_or t.row_starts w 0)) b ≡ sheet_bytes t w ++ drop (row_at b (get_or t.row_starts (w + 1) 0)) b
  drop_sheet w l =
      let from = get_or t.row_starts w 0 in
      let to = get_or t.row_starts (w + 1) 0 in
      let up = p.sheeted.2 w l in
      let begin : from + 0 ≡ from = omega arith in
      let end : from + (to - from) ≡ to = omega arith in
      let all =
      drop_is_flat (λ k. row_bytes t w (from + k)) b (λ k. row_at b (from + k)) (to - from)
      (λ k h. rw (sym_assoc from k) (drop_row w (from + k) l (omega arith) (omega arith)))
      in
      rw (begin, end) at all
    where
      sym_assoc : (x y : ℕ) → x + (y + 1) ≡ x + y + 1
      sym_assoc x y = omega arith

  pub written : encode t ≡ b
  unfolding encode
  written =
      let whole = s.whole in
      let begins = record_at_mono b 0 (applicants_in b) (omega arith) in
      let first = record_at_none b in
      let m_is = s.workshops_is in
      let n_is = s.applicants_is in
      let applicants_part = drop_word b small 0 (applicants t) (omega arith) s.applicants_is in
      let workshops_part = drop_word b small 2 (workshops t) (omega arith) s.workshops_is in
      let places_part = drop_table (places_at t) b 4 (workshops t) (omega arith) s.place_is in
      let places_end : 4 + workshops t ≡ record_at b 0 = omega arith in
      let records_part = drop_is_flat (record_bytes t) b (record_at b) (applicants t) drop_record in
      let records_end : record_at b (applicants t) ≡ rows_from b = ap (record_at b) (sym n_is) in
      let number_part = drop_word b small (rows_from b) (rows t) (omega arith) s.rows_is in
      let sheets_part = drop_is_flat (sheet_bytes t) b (λ w. row_at b (get_or t.row_starts w 0)) (workshops t) drop_sheet in
      let sheets_begin : rows_from b + 2 ≡ row_at b (get_or t.row_starts 0 0) = omega (arith, p.sheeted.1) in
      let nothing_behind : drop (row_at b (get_or t.row_starts (workshops t) 0)) b ≡ [] = drop_all _ b (omega (arith, p.sheeted.3, s.rows_is)) in
      let end = append-nil (flat (sheet_bytes t) (workshops t)) in
      cc
