-- Bytes that say proper tables: the tables read from them are these, and they have no fault.
use Rattle.std.proofs.Common.{◌≡◌, ℕ, zero, suc, ◌+◌, ◌<◌, ◌≤◌, List, [], length, get_or, drop, sym, ◌∙◌, inl, inr, ⊎_elim, add-one, arith}
use Rattle.std.proofs.lemmas.List.{append-nil, drop_all}
use Rattle.std.proofs.lemmas.Bool.{cases_lt}
use Rattle.layout.specs.Slices.{table}
use Rattle.layout.specs.Tables.{Tables, Proper, applicants, workshops, rows, list_length, list_at}
use Rattle.layout.specs.Bytes.{applicants_in, workshops_in, lot_in, count_in, entry_in, rows_in, row_workshop_in, row_applicant_in, row_points_in, seats_before, start_of, rows_before, entries_below, tables_in}
use Rattle.layout.proofs.Flats.{is_table, drop_table, drop_is_flat}
use Rattle.layout.proofs.Seen.{no_repeat_apart}
use Rattle.layout.proofs.Clean.{Clean, After}
use Rattle.layout.proofs.Rows.{rows_before_all, rows_before_stops}
use Rattle.layout.proofs.OfProper.{length_list_at, getD_list_at, starts_within, row_starts_within, row_starts_mono, sheet_of}
use Rattle.layout.proofs.Says.{Says}

module _ (b : List ℕ) (t : Tables) (p : Proper t) (s : Says b t) where
  seats_are : (w : ℕ) → w ≤ workshops t → seats_before b w ≡ get_or t.seats w 0
  unfolding seats_before
  seats_are zero l = sym p.seated.0
  seats_are (suc w) l =
      let up = rw (add-one w) at (p.seated.1 w l) in
      let here = rw (add-one w) at (s.place_is w l) in
      omega (arith, seats_are w (omega arith))

  starts_are : (a : ℕ) → a ≤ applicants t → start_of b a ≡ get_or t.starts a 0
  unfolding start_of
  starts_are zero l = sym p.started.1
  starts_are (suc a) l =
      let up = rw (add-one a) at (p.started.2 a l) in
      let here = rw (add-one a) at (s.count_is a l) in
      omega (arith, starts_are a (omega arith))

  entries_are : entries_below b (applicants t) ≡ t.entries
  entries_are =
      let lists =
      drop_is_flat (λ a. table (entry_in b a) (count_in b a)) t.entries (λ a. get_or t.starts a 0) (applicants t)
      (λ a l.
      let end : get_or t.starts a 0 + count_in b a ≡ get_or t.starts (a + 1) 0 = omega (arith, s.count_is a l, p.started.2 a l) in
      rw end at
      (drop_table (entry_in b a) t.entries (get_or t.starts a 0) (count_in b a) (omega (arith, starts_within t p (a + 1) (omega arith)))
      (λ j h. sym (s.entry_is a j l (omega (arith, s.count_is a l))))))
      in
      let none = p.started.1 in
      let nothing_behind : drop (get_or t.starts (applicants t) 0) t.entries ≡ [] = drop_all _ t.entries (omega (arith, p.started.4)) in
      let end = append-nil (entries_below b (applicants t)) in
      cc

  -- a row's workshop is below w exactly if the row stands before w's rows
  row_below : (w i : ℕ) → w ≤ workshops t → i < get_or t.row_starts w 0 → row_workshop_in b i < w
  row_below w i l h =
      let (v, lv, low, high) = sheet_of t p i (omega (arith, row_starts_within t p w l)) in
      let v_is = s.workshop_is v i lv low high in
      ⊎_elim
      (λ (below : v < w). omega arith)
      (λ (above : w ≤ v). absurd (omega (arith, row_starts_mono t p w v above (omega arith))))
      (cases_lt v w)

  row_above : (w i : ℕ) → w ≤ workshops t → get_or t.row_starts w 0 ≤ i → i < rows t → w ≤ row_workshop_in b i
  row_above w i l h k =
      let (v, lv, low, high) = sheet_of t p i k in
      let v_is = s.workshop_is v i lv low high in
      ⊎_elim
      (λ (below : v < w). absurd (omega (arith, row_starts_mono t p (v + 1) w (omega arith) l)))
      (λ (above : w ≤ v). omega arith)
      (cases_lt v w)

  row_starts_are : (w : ℕ) → w ≤ workshops t → rows_before b w (rows_in b) ≡ get_or t.row_starts w 0
  row_starts_are w l =
      let start = get_or t.row_starts w 0 in
      rw s.rows_is
      (rows_before_stops b w start (rows t) (row_starts_within t p w l) (λ i low high. row_above w i l low high)
      ∙ rows_before_all b w start (λ i h. row_below w i l h))

  pub read_said : tables_in b ≡ t
  unfolding tables_in
  read_said =
      let n_is = s.applicants_is in
      let m_is : length t.seats ≡ workshops_in b + 1 = omega (arith, s.workshops_is, p.limited.1) in
      let r_is = s.rows_is in
      let n = applicants_in b in
      let m = workshops_in b in
      let r = rows_in b in
      let seats = is_table (seats_before b) t.seats (m + 1) 0 m_is (λ w l. sym (seats_are w (omega arith))) in
      let lots = is_table (lot_in b) t.lots n 0 (sym n_is) (λ a l. sym (s.lot_is a (omega arith))) in
      let starts = is_table (start_of b) t.starts (n + 1) 0 (omega (arith, p.started.0)) (λ a l. sym (starts_are a (omega arith))) in
      let entries : entries_below b n ≡ t.entries = rw n_is entries_are in
      let row_starts =
      is_table (λ w. rows_before b w r) t.row_starts (m + 1) 0 (omega (arith, p.sheeted.0)) (λ w l. sym (row_starts_are w (omega arith)))
      in
      let row_applicants = is_table (row_applicant_in b) t.row_applicants r 0 (sym r_is) (λ i l. sym (s.applicant_is i (omega arith))) in
      let row_points =
      is_table (row_points_in b) t.row_points r 0 (omega (arith, p.rowed.0)) (λ i l. sym (s.points_is i (omega arith)))
      in
      λ i.
      record {
        seats = sym seats i;
        lots = sym lots i;
        starts = sym starts i;
        entries = entries i;
        row_starts = sym row_starts i;
        row_applicants = sym row_applicants i;
        row_points = sym row_points i;
      }

  lots_apart_said : (a c : ℕ) → a < applicants t → c < a → lot_in b c ≡ lot_in b a → ⊥
  lots_apart_said a c l h e =
      let lc : c < applicants t = omega arith in
      let same = p.apart c a (lc, l, sym (s.lot_is c lc) ∙ e ∙ s.lot_is a l) in
      omega arith

  entries_named_said : (a j : ℕ) → a < applicants t → j < count_in b a → entry_in b a j < workshops t
  entries_named_said a j l h =
      let count = s.count_is a l in
      let within = starts_within t p (a + 1) (omega arith) in
      omega (arith, s.entry_is a j l (omega arith), p.named (get_or t.starts a 0 + j) (omega arith))

  entries_apart_said : (a i j : ℕ) → a < applicants t → j < count_in b a → i < j → entry_in b a i ≡ entry_in b a j → ⊥
  entries_apart_said a i j l h k e =
      let count = s.count_is a l in
      let at : (x : ℕ) → x < list_length t a → entry_in b a x ≡ get_or (list_at t a) x 0 =
      λ x lx. s.entry_is a x l lx ∙ sym (getD_list_at t p a x lx) in
      no_repeat_apart (list_at t a) (p.distinct a l) i j k (omega (arith, length_list_at t p a l))
      (sym (at i (omega arith)) ∙ e ∙ at j (omega arith))

  rows_order_said : (i : ℕ) → i + 1 < rows t → After b i
  rows_order_said i l =
      let (v, lv, low, high) = sheet_of t p i (omega arith) in
      let v_is = s.workshop_is v i lv low high in
      let (u, lu, low', high') = sheet_of t p (i + 1) l in
      let u_is = s.workshop_is u (i + 1) lu low' high' in
      ⊎_elim
      (λ (below : v < u). inl (omega arith))
      (λ (above : u ≤ v).
      let up : u < v → ⊥ = λ h. omega (arith, row_starts_mono t p (u + 1) v (omega arith) (omega arith)) in
      let same : u ≡ v = omega arith in
      let to = rw same at high' in
      inr (omega arith, omega (arith, p.sorted v i (lv, low, to), s.applicant_is i (omega arith), s.applicant_is (i + 1) l)))
      (cases_lt v u)

  pub clean_said : Clean b
  clean_said =
      let n_is = s.applicants_is in
      let m_is = s.workshops_is in
      let r_is = s.rows_is in
      let limits = p.limited in
      record {
        few_applicants = omega arith;
        some_workshop = omega arith;
        few_workshops = omega arith;
        few_places = λ w l. omega (arith, s.place_is w (omega arith), p.seated.2 w (omega arith));
        lots_apart = λ a c l. lots_apart_said a c (omega arith);
        few_entries = λ a l. omega (arith, s.count_is a (omega arith), p.started.3 a (omega arith));
        entries_named = λ a j l h. omega (arith, entries_named_said a j (omega arith) h);
        entries_apart = λ a i j l. entries_apart_said a i j (omega arith);
        few_rows = omega arith;
        rows_workshop = λ i l. omega (arith, row_below (workshops t) i (omega arith) (omega (arith, p.sheeted.3)));
        rows_applicant = λ i l. omega (arith, s.applicant_is i (omega arith), p.rowed.1 i (omega arith));
        rows_points = λ i l. omega (arith, s.points_is i (omega arith), p.rowed.2 i (omega arith));
        rows_order = λ i l. rows_order_said i (omega arith);
        whole = s.whole;
      }
