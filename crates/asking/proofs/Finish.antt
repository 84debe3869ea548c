-- The end of a run: when all have settled or used up their lists, the slices hold what the definitions say.
use Rattle.std.proofs.Common.{◌≡◌, ℕ, ◌+◌, ◌-◌, ◌<◌, min, Bool, List, ◌++◌, length, get_or, drop, sym, ap, ◌∙◌, ap₂, arith}
use mathlib.Core.Path.{fun_ext}
use Rattle.std.proofs.lemmas.List.{take-append-drop, drop-drop}
use Rattle.layout.specs.Slices.{table, flat, over}
use Rattle.layout.specs.Tables.{Tables, Proper, applicants, workshops, places_at}
use Rattle.layout.proofs.Flats.{length_table, table_same, length_flat, drop_is_flat}
use Rattle.round.specs.Market.{asked, final, asks, asks_at, placed, placed_at, count}
use Rattle.round.specs.Market as def
use Rattle.round.proofs.Count.{count_same, sum_same}
use Rattle.round.proofs.Ends.{listed_below}
use Rattle.points.specs.Standing.{market}
use Rattle.asking.specs.Ended.{told, bench_of, bench_at, benches_at, benches_of}
use Rattle.asking.specs.Asking.{gone, counts, at_rest, asks_so_far, ends_at, told_from, Resting}
use Rattle.asking.proofs.Progress.{gone_asked, final_at_last}
use Rattle.asking.proofs.Parts.{counts_at}
use Rattle.points.proofs.Theory.{market_n}
use Rattle.asking.proofs.Tabled.{market_len}
use Rattle.asking.proofs.Proper.{lawful}
use Rattle.asking.proofs.Benched.{length_bench_of}
use Rattle.asking.proofs.Found.{seats_rise}

module _ (t : Tables) (ok : Proper t) (results benches old_results old_benches : List ℕ) (asked_in_all : ℕ) (rest : Resting t results benches old_results old_benches (applicants t) asked_in_all) where
  come_to : (c : ℕ) → c < applicants t → counts t results c ≡ at_rest t results c + 1
  unfolding at_rest
  come_to c l = let e = counts_at t results c l in let b = rest.begun c l in omega arith

  all_settled : (c : ℕ) → at_rest t results c < (market t).wish.len c → counts t results c ≡ at_rest t results c + 1
  all_settled c l = let n = market_n t in let b = listed_below (market t) (lawful t ok) c _ l in come_to c (omega arith)

  pub final_is : (c : ℕ) → at_rest t results c ≡ final (market t) c
  final_is = (final_at_last (market t) (lawful t ok) _ _ rest.asking.going all_settled).0

  pub asks_are : asked_in_all ≡ asks (market t)
  unfolding asks_so_far asks_at
  asks_are =
      rest.counted
      ∙ sum_same _ (λ c. min (at_rest t results c + 1) ((market t).wish.len c)) (applicants t) (λ c l. ap (λ (x : ℕ). min x ((market t).wish.len c)) (come_to c l))
      ∙ ap (def.sum (λ c. min (at_rest t results c + 1) ((market t).wish.len c))) (sym (market_n t))
      ∙ (final_at_last (market t) (lawful t ok) _ _ rest.asking.going all_settled).1

  bench_is : (w : ℕ) → bench_of t (gone (market t).wish (counts t results) w) w ≡ bench_at t (final (market t)) w
  unfolding bench_at
  bench_is w =
      ap (λ (X : ℕ → Bool). bench_of t X w)
      (gone_asked (market t) (lawful t ok) _ _ rest.asking.going all_settled w ∙ ap (λ (s : ℕ → ℕ). asked (market t).wish s w) (fun_ext final_is))

  part_is : (w : ℕ) → w < workshops t → drop (get_or t.seats w 0) benches ≡ bench_at t (final (market t)) w ++ drop (get_or t.seats (w + 1) 0) benches
  part_is w l =
      let up = seats_rise t ok w l in
      sym (take-append-drop (places_at t w) (drop (get_or t.seats w 0) benches))
      ∙ ap₂ ◌++◌ (rest.asking.seated w l ∙ bench_is w)
      (drop-drop (places_at t w) (get_or t.seats w 0) benches ∙ ap (λ (k : ℕ). drop k benches) (omega arith))

  length_benches : length (flat (bench_at t (final (market t))) (workshops t)) ≡ get_or t.seats (workshops t) 0
  length_benches =
      length_flat (bench_at t (final (market t))) (λ w. get_or t.seats w 0) (workshops t) ok.seated.0
      (λ w l. let up = seats_rise t ok w l in let long = ap {B = ℕ} (λ (xs : List ℕ). length xs) (sym (bench_is w)) ∙ length_bench_of t ok w l _ in omega arith)

  pub benches_are : benches ≡ over (benches_of t) old_benches
  unfolding benches_of benches_at
  benches_are =
      ap (λ (k : ℕ). drop k benches) (sym ok.seated.0)
      ∙ drop_is_flat (bench_at t (final (market t))) benches (λ w. get_or t.seats w 0) (workshops t) part_is
      ∙ ap (λ (xs : List ℕ). flat (bench_at t (final (market t))) (workshops t) ++ xs)
      (rest.behind.benches_behind ∙ ap (λ (k : ℕ). drop k old_benches) (sym length_benches))

  ends_is : (c : ℕ) → c < applicants t → ends_at t results c ≡ placed_at (market t) (final (market t)) c
  unfolding placed_at at_rest
  ends_is c l =
      let len = market_len t ok c l in
      let e = counts_at t results c l in
      let f = final_is c in
      let g : get_or results c 0 - 1 ≡ final (market t) c = omega arith in
      rw (g, len)

  pub placed_are : count (ends_at t results) (applicants t) ≡ placed (market t)
  unfolding placed
  placed_are = count_same _ _ (applicants t) ends_is ∙ ap (count (placed_at (market t) (final (market t)))) (sym (market_n t))

  pub told_are : over (table (told_from t results) (applicants t)) results ≡ over (table (told (market t)) (applicants t)) old_results
  unfolding told at_rest
  told_are =
      let same : table (told_from t results) (applicants t) ≡ table (told (market t)) (applicants t) =
      table_same 0 _ _ (applicants t)
      (λ c l.
      let test = ends_is c l in
      let e = counts_at t results c l in
      let f = final_is c in
      let g : get_or results c 0 - 1 ≡ final (market t) c = omega arith in
      rw (test, g)) in
      ap₂ ◌++◌ same
      (ap (λ (k : ℕ). drop k results) (length_table _ (applicants t)) ∙ rest.behind.results_behind ∙ ap (λ (k : ℕ). drop k old_results) (sym (length_table (told (market t)) (applicants t))))
