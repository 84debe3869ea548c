-- The beginning of a run: nobody has asked, and all seats are empty.
use Rattle.std.proofs.Common.{◌≡◌, ℕ, ◌+◌, ◌-◌, ◌<◌, ◌≤◌, List, ◌++◌, length, get_or, take, drop, replicate, None, sym, ap, ◌∙◌, ap₂, inl, inr, arith}
use Rattle.std.specs.List.{between}
use Rattle.std.proofs.lemmas.Bool.Decides.{nat_tests}
use Rattle.std.proofs.lemmas.Bool.{cases_lt}
use Rattle.std.proofs.lemmas.List.{length-append, length-replicate, length-drop, length-take, get_or_append_left, get_or-replicate, take-append-le, take-replicate, drop-append-le, drop-replicate, drop_at}
use Rattle.layout.specs.Slices.{over}
use Rattle.layout.specs.Tables.{Tables, Proper, applicants, workshops, places_at}
use Rattle.points.specs.Standing.{no_row, row_worth, market}
use Rattle.bench.specs.Row.{after_all, empty_bench}
use Rattle.asking.specs.Ended.{bench_of, no_room}
use Rattle.asking.specs.Asking.{gone, counts, at_rest, Asking, Behind}
use Rattle.asking.proofs.Progress.{going_begins, not_gone}
use Rattle.asking.proofs.Parts.{counts_at, counts_past}
use Rattle.asking.proofs.Gathered.{rows_at_none}
use Rattle.asking.proofs.Found.{seats_rise, seats_in_all}

-- slices that are long enough
pub room_there : (t : Tables) (results benches rows : ℕ) → no_room t results benches rows ≡ None →
    (applicants t ≤ results) × (get_or t.seats (workshops t) 0 ≤ benches) × (length t.entries ≤ rows)
room_there t results benches rows h =
    (grind (arith, nat_tests), grind (arith, nat_tests), grind (arith, nat_tests))

module _ (x n : ℕ) (old : List ℕ) (room : n ≤ length old) where
  length_cleared : length (over (replicate n x) old) ≡ length old
  length_cleared =
      let a = length-append (replicate n x) (drop (length (replicate n x)) old) in
      let b = length-replicate n x in
      let c = length-drop (length (replicate n x)) old in
      omega arith

  getD_cleared : (i : ℕ) → i < n → get_or (over (replicate n x) old) i 0 ≡ x
  getD_cleared i l = get_or_append_left (replicate n x) _ 0 i (let b = length-replicate n x in omega arith) ∙ get_or-replicate n i x 0 l

  drop_cleared : drop n (over (replicate n x) old) ≡ drop n old
  drop_cleared = drop_at (replicate n x) _ n (length-replicate n x) ∙ ap (λ (k : ℕ). drop k old) (length-replicate n x)

  between_cleared : (i j : ℕ) → i ≤ j → j ≤ n → between i j (over (replicate n x) old) ≡ replicate (j - i) x
  between_cleared i j l h =
      let b = length-replicate n x in
      ap (take (j - i)) (drop-append-le i (replicate n x) _ (omega arith) ∙ ap (λ (xs : List ℕ). xs ++ drop (length (replicate n x)) old) (drop-replicate i n x))
      ∙ take-append-le (j - i) (replicate (n - i) x) _ (let c = length-replicate (n - i) x in omega arith)
      ∙ take-replicate (j - i) (n - i) x (omega arith)

-- what a fill of the front leaves
pub over_filled : (x n : ℕ) (old part : List ℕ) → n ≤ length old → part ≡ replicate (length (take (n - 0) old)) x → part ++ drop (n - 0) old ≡ over (replicate n x) old
over_filled x n old part room is_part =
    let whole : length (take (n - 0) old) ≡ n = omega (arith, length-take (n - 0) old) in
    let behind : n - 0 ≡ length (replicate n x) = omega (arith, length-replicate n x) in
    ap₂ ◌++◌ (is_part ∙ ap (λ (k : ℕ). replicate k x) whole) (ap (λ (k : ℕ). drop k old) behind)

module _ (t : Tables) (ok : Proper t) (results benches old_results old_benches : List ℕ)
    (room_results : applicants t ≤ length old_results) (room_benches : get_or t.seats (workshops t) 0 ≤ length old_benches)
    (is_results : results ≡ over (replicate (applicants t) 0) old_results) (is_benches : benches ≡ over (replicate (get_or t.seats (workshops t) 0) no_row) old_benches) where
  pub fresh : (c : ℕ) → c < applicants t → get_or results c 0 ≡ 0
  fresh c l = rw is_results (getD_cleared 0 (applicants t) old_results room_results c l)

  none_asked : (c : ℕ) → counts t results c ≡ 0
  none_asked c = elim (cases_lt c (applicants t)) [ inl l ↦ counts_at t results c l ∙ fresh c l | inr l ↦ counts_past t results c l ]

  bench_empty : (w : ℕ) → bench_of t (gone (market t).wish (counts t results) w) w ≡ empty_bench (places_at t w)
  unfolding bench_of after_all
  bench_empty w =
      ap (λ (xs : List ℕ). after_all (row_worth t) xs (empty_bench (places_at t w)))
      (rows_at_none t _ w (λ c. not_gone (market t).wish (counts t results) w c (let z = none_asked c in omega arith)))

  pub asking_begins : Asking t (at_rest t results) results benches
  unfolding at_rest empty_bench
  asking_begins =
      record {
        going = going_begins (market t) _ _ (λ c. let z = none_asked c in omega arith) none_asked;
        seated = λ w l.
            rw is_benches (between_cleared no_row (get_or t.seats (workshops t) 0) old_benches room_benches (get_or t.seats w 0) (get_or t.seats (w + 1) 0) (seats_rise t ok w l) (seats_in_all t ok w l))
            ∙ sym (bench_empty w);
        room = (
          let e = ap {B = ℕ} (λ (xs : List ℕ). length xs) is_results ∙ length_cleared 0 (applicants t) old_results room_results in omega arith,
          let e = ap {B = ℕ} (λ (xs : List ℕ). length xs) is_benches ∙ length_cleared no_row (get_or t.seats (workshops t) 0) old_benches room_benches in omega arith,
        );
      }

  pub behind_begins : Behind t results benches old_results old_benches
  behind_begins =
      record {
        results_behind = rw is_results (drop_cleared 0 (applicants t) old_results room_results);
        benches_behind = rw is_benches (drop_cleared no_row (get_or t.seats (workshops t) 0) old_benches room_benches);
      }
