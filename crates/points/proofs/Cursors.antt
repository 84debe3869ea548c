-- The merge pass: the cursors never pass a row that is still to come, and what is written is what the rows of the lists are.
use Rattle.std.proofs.Common.{◌≡◌, ℕ, ◌+◌, ◌-◌, ◌<◌, ◌≤◌, cond, ◌&&◌, eqb, ltb, Bool, true, false, refl, List, [], ◌∷◌, ◌++◌, length, get_or, map, take, drop, set, replicate, sym, ap, ◌∙◌, inl, inr, arith}
use Rattle.std.proofs.lemmas.Bool.{cases_eq, cases_lt, ltb-true, ltb-false, lt-ltb, le-ltb}
use Rattle.std.proofs.lemmas.List.Sums.{prefix_len-le-length, prefix_len_passes, prefix_len_stops}
use borrow.Rule.Slice.PartMut.{put_mid}
use Rattle.std.specs.List.{prefix_len, slice_range}
use Rattle.std.specs.Bool.{then_some}
use Rattle.std.specs.Option.{unwrap_or}
use Rattle.std.proofs.lemmas.List.{append_assoc, length-append, length-drop, length-take-le, length-map, get_or-map, take_at, drop_at, drop-drop, set_at, drop_more, get_or-set_same, get_or-set_other, get_or-replicate, get_or-take, get_or-drop}
use Rattle.layout.specs.Slices.{flat, over}
use Rattle.layout.specs.Tables.{Tables, Proper, applicants, workshops, rows, list_at, list_length}
use Rattle.layout.proofs.OfProper.{starts_within, length_list_at}
use Rattle.layout.proofs.Flats.{length_table, is_table, flat_more, length_flat}
use Rattle.points.specs.Standing.{row_of, rows_of_list, no_row}
use Rattle.points.specs.Cursors.{from_row, to_row, applicant_of, Passed}
use Rattle.points.proofs.Rows.{to_row_le, row_of_first}

-- one more number behind what was laid over the front
pub over_more : (xs old s : List ℕ) (k y : ℕ) → s ≡ over xs old → length xs ≡ k → k < length s → set s k y ≡ over (xs ++ y ∷ []) old
over_more xs old s k y e l h =
    let here : k < length old = omega (arith, ap length e, length-append xs (drop (length xs) old), length-drop (length xs) old) in
    let whole : s ≡ xs ++ (get_or old k 0 ∷ drop (k + 1) old) =
    e ∙ ap (λ n. xs ++ drop n old) l ∙ ap (λ (zs : List ℕ). xs ++ zs) (drop_more old k 0 here)
    in
    let one : length (xs ++ y ∷ []) ≡ k + 1 = omega (arith, length-append xs (y ∷ [])) in
    ap (λ (zs : List ℕ). set zs k y) whole
    ∙ set_at xs (get_or old k 0) (drop (k + 1) old) y k l
    ∙ sym (append_assoc xs (y ∷ []) (drop (k + 1) old))
    ∙ ap (λ n. (xs ++ y ∷ []) ++ drop n old) (sym one)

-- a part written right behind what was laid over the front
pub over_part : (xs ys old s : List ℕ) (k n : ℕ) → s ≡ over xs old → length xs ≡ k → length ys ≡ n → k + n ≤ length s → put_mid k n s ys ≡ over (xs ++ ys) old
over_part xs ys old s k n e l m h =
    let back : drop k s ≡ drop (length xs) old = ap (drop k) e ∙ drop_at xs (drop (length xs) old) k l in
    let behind : drop n (drop k s) ≡ drop (length (xs ++ ys)) old =
    ap (drop n) back ∙ drop-drop n (length xs) old ∙ ap (λ i. drop i old) (omega (arith, length-append xs ys))
    in
    let front : take k s ≡ xs = ap (take k) e ∙ take_at xs (drop (length xs) old) k l in
    ap (λ (zs : List ℕ). zs ++ (ys ++ drop n (drop k s))) front ∙ ap (λ (zs : List ℕ). xs ++ (ys ++ zs)) behind ∙ sym (append_assoc xs ys _)

then_some_or : (b : Bool) (x d : ℕ) → unwrap_or (then_some b x) d ≡ cond b x d
then_some_or true x d = refl
then_some_or false x d = refl

-- the applicants of w's rows from i on
abbrev pub rest_of : Tables → ℕ → ℕ → List ℕ
rest_of t w i = slice_range t.row_applicants i (to_row t w)

-- how many of these at the front are before a up to the first that is not
abbrev pub more_rows : Tables → ℕ → ℕ → ℕ → ℕ
more_rows t a w i = prefix_len (λ o. ltb o a) (rest_of t w i)

module _ (t : Tables) (good : Proper t) where
  pub passed_none : Passed t 0 (replicate 256 0)
  passed_none w h =
      let z = get_or-replicate {A = ℕ} 256 w 0 0 (omega (arith, good.limited.2)) in
      (omega (arith, z, good.sheeted.2 w h), λ j l u. omega (arith, z))

  pub passed_next : (a : ℕ) (ps : List ℕ) → Passed t a ps → Passed t (a + 1) ps
  passed_next a ps passed w h = ((passed w h).0, λ j l u. omega (arith, (passed w h).1 j l u))

  -- The rows of w from i on: so many more at the front are of applicants before a
  rest_at : (w i k : ℕ) → i + k < to_row t w → get_or (rest_of t w i) k 0 ≡ applicant_of t (i + k)
  rest_at w i k h = get_or-take (to_row t w - i) (drop i t.row_applicants) k 0 (omega arith) ∙ get_or-drop i t.row_applicants k 0

  length_rest : (w i : ℕ) → w < workshops t → length (rest_of t w i) ≡ to_row t w - i
  length_rest w i h =
      length-take-le (to_row t w - i) (drop i t.row_applicants) (omega (arith, length-drop i t.row_applicants, to_row_le t good w h))

  more_within : (a w i : ℕ) → w < workshops t → i ≤ to_row t w → i + more_rows t a w i ≤ to_row t w
  more_within a w i h l = omega (arith, prefix_len-le-length (λ o. ltb o a) (rest_of t w i), length_rest w i h)

  -- where the cursor of w stands, and where it moves
  pub cursor_within : (a : ℕ) (ps : List ℕ) → Passed t a ps → (w : ℕ) → w < workshops t →
      (from_row t w + get_or ps w 0 + more_rows t a w (from_row t w + get_or ps w 0) ≤ to_row t w) × (from_row t w + get_or ps w 0 ≤ to_row t w) × (to_row t w ≤ rows t) × (rows t ≤ 60000)
  cursor_within a ps passed w h = (more_within a w _ h (passed w h).0, (passed w h).0, to_row_le t good w h, good.limited.3)

  more_before : (a w i : ℕ) → w < workshops t → i ≤ to_row t w → (j : ℕ) → i ≤ j → j < i + more_rows t a w i → applicant_of t j < a
  more_before a w i h l j lj uj =
      let e : i + (j - i) ≡ j = omega arith in
      let at = rest_at w i (j - i) (omega (arith, more_within a w i h l)) in
      let passes = prefix_len_passes (λ o. ltb o a) (rest_of t w i) (j - i) 0 (omega arith) in
      rw e at (ltb-true _ _ (rw at at passes))

  more_stops : (a w i : ℕ) → w < workshops t → i ≤ to_row t w → i + more_rows t a w i < to_row t w → a ≤ applicant_of t (i + more_rows t a w i)
  more_stops a w i h l u =
      let stops = prefix_len_stops (λ o. ltb o a) (rest_of t w i) 0 (omega (arith, length_rest w i h)) in
      ltb-false _ _ (rw (rest_at w i (more_rows t a w i) u) at stops)

  pub passed_more : (a : ℕ) (ps : List ℕ) → Passed t a ps → length ps ≡ 256 → (w : ℕ) → w < workshops t →
      Passed t a (set ps w (get_or ps w 0 + more_rows t a w (from_row t w + get_or ps w 0)))
  passed_more a ps passed len w h v hv =
      let i : ℕ = from_row t w + get_or ps w 0 in
      let n : ℕ = more_rows t a w i in
      elim (cases_eq v w) [
        | inl e ↦
            (let same = get_or-set_same ps w (get_or ps w 0 + n) 0 (omega (arith, good.limited.2)) in
            rw e (rw same (omega (arith, more_within a w i h (passed w h).0), λ j lj uj. before j lj (omega arith))))
        | inr ne ↦ (let other = get_or-set_other ps w v (get_or ps w 0 + n) 0 ne in rw other (passed v hv))
      ]
    where
      before : (j : ℕ) → from_row t w ≤ j → j < from_row t w + get_or ps w 0 + more_rows t a w (from_row t w + get_or ps w 0) → applicant_of t j < a
      before j lj uj =
          elim (cases_lt j (from_row t w + get_or ps w 0)) [
            | inl k ↦ (passed w h).1 j lj k
            | inr k ↦ more_before a w (from_row t w + get_or ps w 0) h (passed w h).0 j k uj
          ]

  -- the row that is found: the one at which they end, if it is a's
  pub row_found : (a : ℕ) (ps : List ℕ) → Passed t a ps → (w : ℕ) → w < workshops t → (n : ℕ) (own : Bool) → n ≡ more_rows t a w (from_row t w + get_or ps w 0) →
      own ≡ (ltb n (length (rest_of t w (from_row t w + get_or ps w 0))) && eqb (get_or (rest_of t w (from_row t w + get_or ps w 0)) n 0) a) →
      unwrap_or (then_some own (from_row t w + get_or ps w 0 + n)) no_row ≡ row_of t w a
  row_found a ps passed w h n own e is =
      let f : ℕ = from_row t w + get_or ps w 0 in
      let within = (passed w h).0 in
      let first =
      row_of_first t good w a (f + n) h (omega arith) (omega (arith, more_within a w f h within))
      (λ j lj uj. elim (cases_lt j f) [ inl k ↦ (passed w h).1 j lj k | inr k ↦ more_before a w f h within j k (omega arith) ])
      (λ u. rw e (more_stops a w f h within (omega arith)))
      in
      let same : own ≡ (ltb (f + n) (to_row t w) && eqb (applicant_of t (f + n)) a) =
      elim (cases_lt n (length (rest_of t w f))) [
        | inl k ↦ (let there = lt-ltb (f + n) (to_row t w) (omega (arith, length_rest w f h)) in let at = rest_at w f n (omega (arith, length_rest w f h)) in let here = lt-ltb n _ k in cc)
        | inr k ↦ (let there = le-ltb (f + n) (to_row t w) (omega (arith, length_rest w f h)) in let here = le-ltb n _ k in cc)
      ]
      in
      then_some_or own (f + n) no_row ∙ ap (λ b. cond b (f + n) no_row) same ∙ sym first

  -- a's part of the slice
  pub starts_le : (a : ℕ) → a < applicants t → get_or t.starts (a + 1) 0 ≤ length t.entries
  starts_le a h = starts_within t good (a + 1) (omega arith)

  rows_of_list_map : (a : ℕ) → a < applicants t → map (λ w. row_of t w a) (list_at t a) ≡ rows_of_list t a
  rows_of_list_map a h =
      is_table (λ j. row_of t (get_or (list_at t a) j 0) a) (map (λ w. row_of t w a) (list_at t a)) (list_length t a) 0
      (length-map (list_at t a) (λ w. row_of t w a) ∙ length_list_at t good a h)
      (λ k l. get_or-map (λ w. row_of t w a) (list_at t a) k 0 0 (omega (arith, length_list_at t good a h)))

  pub length_found : (a : ℕ) → a ≤ applicants t → length (flat (rows_of_list t) a) ≡ get_or t.starts a 0
  length_found a h =
      length_flat (rows_of_list t) (λ k. get_or t.starts k 0) a good.started.1
      (λ k l. omega (arith, length_table (λ j. row_of t (get_or (list_at t k) j 0) k) (list_length t k), good.started.2 k (omega arith)))

  pub found_more : (a : ℕ) (s old ys : List ℕ) → a < applicants t → s ≡ over (flat (rows_of_list t) a) old → length t.entries ≤ length s →
      ys ≡ map (λ w. row_of t w a) (list_at t a) → put_mid (get_or t.starts a 0) (list_length t a) s ys ≡ over (flat (rows_of_list t) (a + 1)) old
  found_more a s old ys h e room is =
      over_part (flat (rows_of_list t) a) ys old s (get_or t.starts a 0) (list_length t a) e (length_found a (omega arith))
      (ap (λ (zs : List ℕ). length zs) is ∙ length-map (list_at t a) (λ w. row_of t w a) ∙ length_list_at t good a h)
      (omega (arith, starts_le a h, good.started.2 a h))
      ∙ ap (λ (zs : List ℕ). over (flat (rows_of_list t) a ++ zs) old) (is ∙ rows_of_list_map a h)
      ∙ ap (λ (zs : List ℕ). over zs old) (sym (flat_more (rows_of_list t) a))
