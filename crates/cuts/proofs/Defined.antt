-- The cuts of the end are what they are said to be: as many seats are taken as applicants are placed, and the last of these has the
-- last seat.
use Rattle.std.proofs.Common.{◌≡◌, ℕ, ◌<◌, ◌≤◌, Bool, true, false, ◌&&◌, ltb, ◌≢◌, ◌⊎◌, List, [], ◌∷◌, length, get_or, sym, refl, ap, ◌∙◌, inl, inr, arith}
use Rattle.std.proofs.lemmas.Bool.{cases_eq, cond-true, lt-ltb, ltb-true}
use Rattle.std.proofs.lemmas.Bool.Decides.{nat_tests}
use Rattle.layout.specs.Tables.{Tables, Proper, applicants, workshops, places_at, has}
use Rattle.round.specs.Places.{point}
use Rattle.round.specs.Market.{Market, final, count, Steady}
use Rattle.round.specs.ByPoints.{market_of, keeps_best}
use Rattle.round.proofs.Best.{kept_facts, few, full}
use Rattle.round.proofs.Count.{count_mono}
use Rattle.round.proofs.Ends.{final_steady}
use Rattle.round.proofs.Stability.{kept_here, count_kept}
use Rattle.points.specs.Standing.{no_row, row_of, points_of_row, lot_of_row, row_worth, worth, round_of, market}
use Rattle.bench.specs.Best.{number, above}
use Rattle.bench.proofs.Numbers.{has_here, has_there}
use Rattle.asking.specs.Ended.{bench_of, bench_at}
use Rattle.points.proofs.Theory.{round_applicants, round_places, round_point}
use Rattle.asking.proofs.Standings.{Of, row_small, row_of_applicant, row_worth_none}
use Rattle.asking.proofs.Proper.{lawful, round_proper}
use Rattle.asking.proofs.Gathered.{number_rows_at}
use Rattle.asking.proofs.Benched.{length_bench_of, best_of_bench, kept_seated, seated_kept}
use Rattle.cuts.specs.Cuts.{cut_of_bench}
use Rattle.cuts.specs.Promised.{cut_at, own_points, placed_count, Last, CutsDefined}
use Rattle.cuts.specs.declared.Cut.TheVariants.{Full}
use Rattle.cuts.proofs.Seats.{last, last_least, has_last, last_passes, cut_none, cut_empty, cut_seated}
use Rattle.cuts.proofs.Reaching.{asked_in}

number_all : (p : ℕ → Bool) (b : List ℕ) → ((x : ℕ) → has x b ≡ true → p x ≡ true) → number p b ≡ length b
unfolding number
number_all p [] h = refl
number_all p (x ∷ xs) h =
    let here = h x (has_here x xs) in
    let rest = number_all p xs (λ y m. h y (has_there y x xs m)) in
    rw here (omega arith)

module _ (t : Tables) (ok : Proper t) (w : ℕ) (l : w < workshops t) where
  abbrev k : Market
  k = market t

  abbrev X : ℕ → Bool
  X = asked_in t w

  abbrev b : List ℕ
  b = bench_of t X w

  steady : Steady k (final k)
  steady = final_steady k (lawful t ok)

  -- those placed are those kept
  placed_kept : placed_count t w ≡ count (k.keeps w X) (applicants t)
  placed_kept = sym (count_kept k (lawful t ok) (final k) steady w (applicants t))

  -- askers with points
  with_points : ℕ → Bool
  with_points c = X c && ltb 0 (row_worth t (row_of t w c))

  kept_with_points : (c : ℕ) → c < applicants t → k.keeps w X c ≡ true → with_points c ≡ true
  unfolding market market_of with_points worth
  kept_with_points c h kept =
      let f = kept_facts _ (point (round_of t)) _ w X c kept in
      let at = round_point t w c l h in
      grind (arith, nat_tests)

  -- the way of keeping, with the number of places that the tables have
  abbrev kept_of : ℕ → Bool
  kept_of = keeps_best (λ p. get_or (round_of t).places p 0) (point (round_of t)) (length (round_of t).lists) w X

  few_kept : count (k.keeps w X) (applicants t) ≤ places_at t w
  unfolding market market_of
  few_kept =
      let most = few (λ p. get_or (round_of t).places p 0) (point (round_of t)) (length (round_of t).lists) (round_proper t ok).points w X in
      omega (arith, ap (count kept_of) (round_applicants t), round_places t w l)

  -- all with points are kept, or there are no places left
  full_kept : (count with_points (applicants t) ≤ count (k.keeps w X) (applicants t)) ⊎ (places_at t w ≤ count (k.keeps w X) (applicants t))
  unfolding market market_of with_points worth
  full_kept =
      let same = ap (count kept_of) (round_applicants t) in
      let n = round_applicants t in
      elim (full (λ p. get_or (round_of t).places p 0) (point (round_of t)) (length (round_of t).lists) (round_proper t ok).points w X) [
        | inl all ↦
            inl (count_mono with_points kept_of (applicants t) (λ c h some.
            let at = round_point t w c l h in
            let parts : (X c ≡ true) × (0 < row_worth t (row_of t w c)) = grind (arith, nat_tests) in
            all c (omega arith) parts.0 (omega (arith, parts.1))))
        | inr packed ↦ inr (omega (arith, round_places t w l))
      ]

  -- as many seats are taken as applicants are placed
  seats_taken : above (row_worth t) 0 b ≡ placed_count t w
  unfolding with_points
  seats_taken =
      let none : ltb 0 (row_worth t no_row) ≡ false = rw (row_worth_none t ok) refl in
      let askers = number_rows_at t ok w l X (λ x. ltb 0 (row_worth t x)) none in
      let most = (best_of_bench t ok w l X).many 0 in
      let long = length_bench_of t ok w l X in
      let low = count_mono _ with_points (applicants t) kept_with_points in
      let high = few_kept in
      let kept = placed_kept in
      elim full_kept [ inl all ↦ omega arith | inr packed ↦ omega arith ]

  -- a full workshop has somebody in the last seat
  last_taken : 0 < places_at t w → placed_count t w ≡ places_at t w → last b ≢ no_row
  last_taken some packed e =
      let long = length_bench_of t ok w l X in
      let taken = ltb-true 0 _ (last_passes (λ x. ltb 0 (row_worth t x)) b (omega arith) (omega (arith, seats_taken))) in
      omega (arith, ap (row_worth t) e, row_worth_none t ok)

  -- with places left the last seat is empty
  last_free : placed_count t w < places_at t w → last b ≡ no_row
  last_free left =
      let long = length_bench_of t ok w l X in
      let best = best_of_bench t ok w l X in
      elim (cases_eq (last b) no_row) [
        | inl e ↦ e
        | inr row ↦
            let worth = ((best.kept (last b) row).0 (has_last b (omega arith))).1 in
            let all = number_all (λ x. ltb 0 (row_worth t x)) b (λ x m. lt-ltb 0 _ (omega (arith, last_least (row_worth t) b best.sorted x m))) in
            absurd (omega (arith, seats_taken))
      ]

  -- whoever has the last seat is the last of those placed
  module _ (seats : 0 < length b) (row : last b ≢ no_row) where
    abbrev owner : ℕ
    owner = get_or t.row_applicants (last b) 0

    sits : Of t w (last b) × (k.keeps w X owner ≡ true)
    sits = seated_kept t ok w l X (last b) row (has_last b seats)

    own_row : row_of t w owner ≡ last b
    own_row = row_of_applicant t ok w l (last b) sits.0

    pub owner_last : Last t w owner
    unfolding worth
    owner_last = (
      ok.rowed.1 (last b) (row_small t ok w l (last b) sits.0),
      kept_here k (lawful t ok) (final k) steady.justified w owner sits.1,
      λ c h placed.
          let seat = kept_seated t ok w l X c h (steady.closed w c placed) in
          omega (arith, ap (row_worth t) own_row, last_least (row_worth t) b (best_of_bench t ok w l X).sorted _ seat.1),
    )

    pub cut_owner : cut_of_bench t b ≡ Full (record { 0 = own_points t w owner }) (record { 0 = get_or t.lots owner 0 })
    cut_owner =
        let lot : lot_of_row t (last b) ≡ get_or t.lots owner 0 = cond-true _ _ _ (lt-ltb _ _ (row_small t ok w l (last b) sits.0)) in
        let points = ap (points_of_row t) own_row in
        cut_seated t b seats row ∙ rw (points, lot)

pub cuts_defined : CutsDefined
unfolding cut_at bench_at
cuts_defined t ok w l =
    let long = length_bench_of t ok w l (asked_in t w) in
    let few = few_kept t ok w l in
    record {
      room = omega (arith, placed_kept t ok w l);
      shut = λ none. cut_none t _ (long ∙ none);
      open_yet = λ left. cut_empty t (bench_of t (asked_in t w) w) (omega arith) (last_free t ok w l left);
      full =
          λ some packed.
          let seats : 0 < length (bench_of t (asked_in t w) w) = omega arith in
          let row = last_taken t ok w l some packed in
          (owner t ok w l seats row, owner_last t ok w l seats row, cut_owner t ok w l seats row);
    }
