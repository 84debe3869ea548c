-- The letters of a round that was asked to the end: what is written is what concerns the applicant, and the checker accepts it.
use Rattle.std.proofs.Common.{◌≡◌, ℕ, ◌+◌, ◌-◌, ◌%◌, ◌^◌, ◌<◌, ◌≤◌, Bool, true, false, cond, eqb, ◌⊎◌, List, ◌++◌, map, length, get_or, take, drop, is_ok, Result, sym, refl, ap, ◌∙◌, inl, inr, arith}
use Rattle.std.proofs.lemmas.List.{take_at, take-append-drop, get_or-take, get_or_past, get_or-map, length-map}
use Rattle.std.proofs.ByRecursion.{All-from_get_or}
use Rattle.std.proofs.lemmas.Bool.{cases_lt, eq-eqb, cond-true}
use Rattle.std.proofs.lemmas.Bool.Decides.{nat_tests}
use Rattle.layout.specs.declared.Refusal.{Refusal}
use Rattle.layout.specs.Slices.{table, flat}
use Rattle.layout.specs.Tables.{Tables, Proper, applicants, workshops, rows, places_at, list_length, list_at}
use Rattle.layout.proofs.Flats.{length_table, getD_table, table_same, is_table, drop_flat_at}
use Rattle.round.specs.Market.{final, placed_at}
use Rattle.points.specs.Standing.{no_row, row_of, points_of_row, lot_of_row, market}
use Rattle.points.proofs.Lots.{lot_small}
use Rattle.asking.specs.Ended.{told, bench_at, benches_at, benches_of}
use Rattle.asking.proofs.Tabled.{market_len, getD_list, length_list}
use Rattle.asking.proofs.Benched.{length_bench_of}
use Rattle.asking.proofs.Found.{row_in_slice, entry_named}
use Rattle.cuts.specs.Cuts.{cut_of_bench, position, first_that}
use Rattle.cuts.specs.Promised.{cut_at, reaches_cut}
use Rattle.cuts.specs.declared.Cut.{Cut}
use Rattle.cuts.specs.declared.Cut.TheVariants.{Open, Shut, Full}
use Rattle.cuts.proofs.Firsts.{first_that_same}
use Rattle.cuts.proofs.Reaching.{told_by_cuts}
use Rattle.letters.specs.Letter.{WellFormed, SmallEntry, cut_points, cut_lot, encode_letter}
use Rattle.letters.specs.Exact.{reached_with, reached_list, first_place}
use Rattle.letters.specs.Written.{all_seats, bench_in, entry_from, letter_from}
use Rattle.letters.specs.Settled.{Settled, own_entry, own_letter, Accepted, LettersSettled, NothingElse}
use Rattle.letters.specs.declared.check.Verdict.{Verdict}
use Rattle.letters.specs.declared.entry.Entry.{Entry}
use Rattle.letters.proofs.RoundTrip.{blank, workshop_of, letter_same}
use Rattle.letters.proofs.Judged.{judged_encode}

entry_same : {w v p q : ℕ} {c d : Cut} → w ≡ v → p ≡ q → c ≡ d →
    ◌≡◌ {A = Entry} (record { workshop = w; points = record { 0 = p }; cut = c }) (record { workshop = v; points = record { 0 = q }; cut = d })
entry_same e f g = cc

module _ (t : Tables) (ok : Proper t) where
  length_bench_at : (w : ℕ) → w < workshops t → length (bench_at t (final (market t)) w) ≡ places_at t w
  unfolding bench_at
  length_bench_at w l = length_bench_of t ok w l _

  -- a workshop's seats among all benches
  bench_in_settled : (benches : List ℕ) → take (all_seats t) benches ≡ benches_of t → (w : ℕ) → w < workshops t →
      bench_in t benches w ≡ bench_at t (final (market t)) w
  unfolding benches_of benches_at
  bench_in_settled benches e w l =
      let f = bench_at t (final (market t)) in
      let behind = drop (all_seats t) benches in
      let whole : benches ≡ flat f (workshops t) ++ behind = sym (take-append-drop (all_seats t) benches) ∙ ap (λ (x : List ℕ). x ++ behind) e in
      let found = drop_flat_at f (λ v. get_or t.seats v 0) (workshops t) ok.seated.0
      (λ v h. omega (arith, length_bench_at v h, ok.seated.1 v h)) behind w l in
      ap (λ (x : List ℕ). take (places_at t w) (drop (get_or t.seats w 0) x)) whole
      ∙ ap (take (places_at t w)) found.1
      ∙ take_at (f w) found.0 (places_at t w) (length_bench_at w l)

  -- the numbers of any row and of any cut fit two bytes
  points_small : (i : ℕ) → points_of_row t i < 2 ^ 16
  points_small i =
      elim (cases_lt i (rows t)) [
        | inl h ↦ ok.rowed.3 i h
        | inr h ↦ omega (arith, get_or_past t.row_points i 0 (omega (arith, ok.rowed.0)))
      ]

  cut_small : (b : List ℕ) → (cut_points (cut_of_bench t b) < 2 ^ 16) × (cut_lot (cut_of_bench t b) < 2 ^ 16)
  cut_small b =
      let i = get_or b (length b - 1) 0 in
      fits (eqb (length b) 0) (eqb i no_row) (points_of_row t i) (lot_of_row t i) (points_small i) (lot_small t ok i)
    where
      fits : (x y : Bool) (p q : ℕ) → p < 2 ^ 16 → q < 2 ^ 16 →
          (cut_points (cond x Shut (cond y Open (Full (record { 0 = p }) (record { 0 = q })))) < 2 ^ 16)
          × (cut_lot (cond x Shut (cond y Open (Full (record { 0 = p }) (record { 0 = q })))) < 2 ^ 16)
      fits true y p q hp hq = (omega arith, omega arith)
      fits false true p q hp hq = (omega arith, omega arith)
      fits false false p q hp hq = (hp, hq)

  module _ (a : ℕ) (l : a < applicants t) where
    abbrev at : ℕ → ℕ
    at j = get_or (list_at t a) j 0

    abbrev n : ℕ
    n = list_length t a

    at_is : (j : ℕ) → j < n → get_or t.entries (get_or t.starts a 0 + j) 0 ≡ at j
    at_is j h = sym (getD_list t ok a l j 0 h)

    told_place : (told (market t) a < n) ⊎ (told (market t) a ≡ 255)
    unfolding told placed_at
    told_place =
        let len = market_len t ok a l in
        elim (cases_lt (final (market t) a) n) [ inl h ↦ inl (grind (arith, nat_tests)) | inr h ↦ inr (grind (arith, nat_tests)) ]

    few : n ≤ 20
    few = omega (arith, ok.started.3 a l)

    -- what is written
    entry_settled : (rows results benches : List ℕ) → Settled t rows results benches → (j : ℕ) → j < n →
        entry_from t rows benches (get_or t.starts a 0 + j) ≡ own_entry t a j
    unfolding cut_at
    entry_settled rows results benches s j h =
        let row = row_in_slice t ok a l j h rows s.rows_are in
        let bench = bench_in_settled benches s.benches_are _ (entry_named t ok a l j h) in
        entry_same (at_is j h)
        (ap (points_of_row t) (row ∙ ap (λ (w : ℕ). row_of t w a) (at_is j h)))
        (ap (cut_of_bench t) bench ∙ ap (λ (w : ℕ). cut_of_bench t (bench_at t (final (market t)) w)) (at_is j h))

    pub letter_settled : (rows results benches : List ℕ) → Settled t rows results benches → letter_from t rows results benches a ≡ own_letter t a
    letter_settled rows results benches s =
        let result : get_or results a 0 ≡ told (market t) a =
        sym (get_or-take (applicants t) results a 0 l) ∙ ap (λ (xs : List ℕ). get_or xs a 0) s.results_are ∙ getD_table _ (applicants t) a 0 l
        in
        let place : get_or results a 0 % 256 ≡ told (market t) a =
        elim told_place [ inl h ↦ let f = few in omega arith | inr e ↦ omega arith ]
        in
        letter_same (own_letter t a) _ _ _ _ refl refl (table_same blank _ (own_entry t a) n (entry_settled rows results benches s)) place

    -- it is well formed
    workshops_are : map workshop_of (table (own_entry t a) n) ≡ list_at t a
    workshops_are =
        let long = length-map (table (own_entry t a) n) workshop_of ∙ length_table (own_entry t a) n in
        is_table at (map workshop_of (table (own_entry t a) n)) n 0 long
        (λ k h. get_or-map workshop_of (table (own_entry t a) n) k blank 0 (omega (arith, length_table (own_entry t a) n)) ∙ ap workshop_of (getD_table (own_entry t a) n k blank h))
        ∙ sym (is_table at (list_at t a) n 0 (length_list t ok a l) (λ k h. refl))

    pub well_formed_own : WellFormed (own_letter t a)
    unfolding cut_at
    well_formed_own =
        let count = length_table (own_entry t a) n in
        record {
          applicant = omega (arith, ok.limited.0);
          lot = ok.drawn a l;
          few = omega (arith, few);
          small = All-from_get_or SmallEntry (table (own_entry t a) n) blank (λ j h.
              let cut = cut_small (bench_at t (final (market t)) (at j)) in
              rw (getD_table (own_entry t a) n j blank (omega arith))
              (omega (arith, entry_named t ok a l j (omega arith), at_is j (omega arith), ok.limited.2), points_small _, cut.0, cut.1));
          distinct = rw workshops_are (ok.distinct a l);
          place = rw count told_place;
        }

    -- and its place is the first that is reached
    pub place_own : told (market t) a ≡ first_place (own_letter t a)
    place_own =
        let lot = get_or t.lots a 0 in
        let es = table (own_entry t a) n in
        let count = length_table (own_entry t a) n in
        let g : ℕ → Bool = λ j. get_or (reached_list lot es) j false in
        let each : (j : ℕ) → j < n → reaches_cut t a (at j) ≡ g j =
        λ j h. sym (get_or-map (reached_with lot) es j blank false (omega arith) ∙ ap (reached_with lot) (getD_table (own_entry t a) n j blank h))
        in
        told_by_cuts t ok a l ∙ ap position (first_that_same (λ j. reaches_cut t a (at j)) g n each ∙ ap (first_that g) (sym count))

    pub accepted_own : Accepted (encode_letter (own_letter t a))
    accepted_own =
        let right = eq-eqb _ _ place_own in
        ap (λ (r : Result Verdict Refusal). is_ok r) (judged_encode (own_letter t a) well_formed_own ∙ cond-true _ _ _ right)

pub letters_settled : LettersSettled
letters_settled t rows results benches ok s a l =
    let same = ap encode_letter (letter_settled t ok a l rows results benches s) in
    (same, rw same (accepted_own t ok a l))

-- rounds that agree on what concerns a tell it the same
pub nothing_else : NothingElse
nothing_else t u ok-t ok-u a lt lu same =
    let es_t = table (own_entry t a) (list_length t a) in
    let es_u = table (own_entry u a) (list_length u a) in
    let len : list_length t a ≡ list_length u a =
    sym (length_list t ok-t a lt) ∙ ap {B = ℕ} (λ (xs : List ℕ). length xs) same.lists ∙ length_list u ok-u a lu
    in
    let entries : es_t ≡ es_u =
    table_same blank (own_entry t a) (own_entry u a) (list_length t a)
    (λ j h. entry_same (ap (λ (xs : List ℕ). get_or xs j 0) same.lists) (same.points j h) (same.cuts j h))
    ∙ ap (table (own_entry u a)) len
    in
    let first : ℕ → List Entry → ℕ = λ lot es. first_place (record { applicant = a; lot = lot; entries = es; place = 0 }) in
    let place : told (market t) a ≡ told (market u) a =
    place_own t ok-t a lt ∙ ap (λ (lot : ℕ). first lot es_t) same.lots ∙ ap (first (get_or u.lots a 0)) entries ∙ sym (place_own u ok-u a lu)
    in
    letter_same (own_letter u a) _ _ _ _ refl same.lots entries place
