-- The bench of a workshop once a set of applicants has asked: just those whom the workshop keeps sit there, and what one more ask
-- does to it.
use Rattle.std.proofs.Common.{◌≡◌, ℕ, ◌+◌, ◌<◌, ◌≤◌, Bool, true, false, cond, ◌&&◌, eqb, ltb, ◌≢◌, ◌⊎◌, List, ◌∷◌, length, get_or, sym, refl, ap, ◌∙◌, inl, inr, arith}
use Rattle.std.proofs.lemmas.Bool.Decides.{nat_tests}
use Rattle.std.proofs.lemmas.Bool.{cases_lt, cases_eq, cases_Bool, false≢true, eq-eqb, ne_eqb}
use Rattle.layout.specs.Tables.{Tables, Proper, applicants, workshops, places_at, has}
use Rattle.round.specs.Places.{point}
use Rattle.round.specs.ByPoints.{market_of, ahead_of}
use Rattle.round.proofs.Best.{kept_facts, kept_from}
use Rattle.round.proofs.Count.{count_same, count_none, count_but_one}
use Rattle.points.specs.Standing.{no_row, row_of, row_worth, worth, round_of, market}
use Rattle.bench.specs.Row.{after_all, empty_bench, taken_in, left_out}
use Rattle.bench.specs.Best.{number, above, BestOf}
use Rattle.bench.proofs.Numbers.{has_cases, has_number, number_has}
use Rattle.bench.proofs.Laws.{after_worthless, taken_in_after}
use Rattle.bench.proofs.Holding.{best_of_after_all}
use Rattle.bench.proofs.Orders.{length_benches, taken_in_all}
use Rattle.bench.proofs.Told.{number_taken_in}
use Rattle.asking.specs.Ended.{rows_at, bench_of}
use Rattle.points.proofs.Theory.{round_applicants, round_point, round_places}
use Rattle.asking.proofs.Standings.{Of, row_found, row_worth_none, row_worth_one, row_small, row_of_applicant}
use Rattle.asking.proofs.Gathered.{has_rows_at, rows_at_has, rows_at_apart, rows_at_more, rows_at_still, number_rows_at}

module _ (t : Tables) (ok : Proper t) (w : ℕ) (l : w < workshops t) where
  pub length_bench_of : (X : ℕ → Bool) → length (bench_of t X w) ≡ places_at t w
  unfolding bench_of
  length_bench_of X = length_benches (row_worth t) (row_worth_none t ok) (places_at t w) (rows_at t X w)

  pub best_of_bench : (X : ℕ → Bool) → BestOf (row_worth t) (rows_at t X w) (bench_of t X w)
  unfolding bench_of
  best_of_bench X = best_of_after_all (row_worth t) (row_worth_none t ok) (places_at t w) (rows_at t X w) (rows_at_apart t ok w l X)

  -- those ahead of an applicant are the rows worth more than its own
  pub ahead_above : (X : ℕ → Bool) (a : ℕ) → a < applicants t → ahead_of (point (round_of t)) (length (round_of t).lists) w X a ≡ above (row_worth t) (worth t w a) (rows_at t X w)
  unfolding ahead_of worth
  ahead_above X a h =
      let pa = round_point t w a l h in
      let none : ltb (row_worth t (row_of t w a)) (row_worth t no_row) ≡ false = rw (row_worth_none t ok) (grind (arith, nat_tests)) in
      rw (round_applicants t)
      (count_same _ _ (applicants t) (λ b lb. let pb = round_point t w b l lb in rw (pa, pb))
      ∙ sym (number_rows_at t ok w l X (λ x. ltb (row_worth t (row_of t w a)) (row_worth t x)) none))

  -- whoever is kept sits on the bench
  pub kept_seated : (X : ℕ → Bool) (c : ℕ) → c < applicants t → (market t).keeps w X c ≡ true → (row_of t w c ≢ no_row) × (has (row_of t w c) (bench_of t X w) ≡ true)
  unfolding market market_of worth
  kept_seated X c h k =
      let f = kept_facts _ (point (round_of t)) _ w X c k in
      let at = round_point t w c l h in
      let room = round_places t w l in
      let many = ahead_above X c h in
      let row : row_of t w c ≢ no_row = λ e. let z = ap (row_worth t) e ∙ row_worth_none t ok in omega arith in
      let found = row_found t ok w l c row in (
        row,
        ((best_of_bench X).kept (row_of t w c) row).1
            (rows_at_has t ok w l X (row_of t w c) found.0 (rw found.1 f.0), omega arith, let len = length_bench_of X in omega arith),
      )

  -- and nobody else
  pub seated_kept : (X : ℕ → Bool) (r : ℕ) → r ≢ no_row → has r (bench_of t X w) ≡ true → Of t w r × ((market t).keeps w X (get_or t.row_applicants r 0) ≡ true)
  unfolding market market_of worth
  seated_kept X r row h =
      let k = ((best_of_bench X).kept r row).0 h in
      let f = has_rows_at t ok w l X r k.0 in
      let c = ok.rowed.1 r (row_small t ok w l r f.0) in
      let own = row_of_applicant t ok w l r f.0 in
      let at = round_point t w (get_or t.row_applicants r 0) l c in
      let e = ap (row_worth t) own in
      let room = round_places t w l in
      let many = ahead_above X (get_or t.row_applicants r 0) c in
      let many' = ap (λ (u : ℕ). above (row_worth t) u (rows_at t X w)) e in
      let len = length_bench_of X in
      (f.0, kept_from _ (point (round_of t)) _ w X _ f.1 (omega arith) (omega arith))

  -- a row is on the bench once
  number_once : (X : ℕ → Bool) (r : ℕ) → r ≢ no_row → number (eqb r) (rows_at t X w) ≤ 1
  number_once X r row =
      let none : eqb r no_row ≡ false = ne_eqb r no_row row in
      let many = number_rows_at t ok w l X (eqb r) none in
      let one = count_but_one (λ c. X c && eqb r (row_of t w c)) (λ _. false) (applicants t) (get_or t.row_applicants r 0)
      (λ c _ ne e.
      let same : r ≡ row_of t w c = grind (arith, nat_tests) in
      let f = row_found t ok w l c (λ z. row (same ∙ z)) in
      absurd (ne (sym f.1 ∙ ap (λ (x : ℕ). get_or t.row_applicants x 0) (sym same)))) in
      let zero = count_none (λ _. false) (applicants t) (λ _ _. refl) in
      omega arith

  -- b asks after all of X, and Y are all then
  module _ (X Y : ℕ → Bool) (b : ℕ) (small : b < applicants t) (new : X b ≡ false) (now : Y b ≡ true) (same : (c : ℕ) → c ≢ b → Y c ≡ X c) where
    -- the bench then
    bench_still : row_of t w b ≡ no_row → bench_of t Y w ≡ bench_of t X w
    unfolding bench_of
    bench_still e = ap (λ (xs : List ℕ). after_all (row_worth t) xs (empty_bench (places_at t w))) (rows_at_still t ok w l X Y b new now same e)

    of_more : row_of t w b ≢ no_row → (x : ℕ) → has x (row_of t w b ∷ rows_at t X w) ≡ true → Of t w x
    of_more row x h =
        elim (has_cases x (row_of t w b) (rows_at t X w) h) [
          | inl e ↦ rw e (row_found t ok w l b row).0
          | inr m ↦ (has_rows_at t ok w l X x m).0
        ]

    bench_more : row_of t w b ≢ no_row → taken_in (row_worth t) (row_of t w b) (bench_of t X w) ≡ bench_of t Y w
    unfolding bench_of
    bench_more row =
        taken_in_all (row_worth t) (row_worth_none t ok) (places_at t w) (row_of t w b) (rows_at t X w) (rows_at t Y w)
        (λ x y hx hy _. row_worth_one t ok w l x y (of_more row x hx) (of_more row y hy))
        (λ p. sym (rows_at_more t ok w l X Y b new now same row p))

    pub bench_taken_in : taken_in (row_worth t) (row_of t w b) (bench_of t X w) ≡ bench_of t Y w
    bench_taken_in =
        elim (cases_eq (row_of t w b) no_row) [
          | inl e ↦
              taken_in_after (row_worth t) (row_of t w b) (bench_of t X w) (best_of_bench X).sorted
              ∙ after_worthless (row_worth t) (row_of t w b) (bench_of t X w) (ap (row_worth t) e ∙ row_worth_none t ok)
              ∙ sym (bench_still e)
          | inr row ↦ bench_more row
        ]

    -- without a row b is not kept
    pub rowless_not_kept : row_of t w b ≡ no_row → (market t).keeps w Y b ≡ false
    rowless_not_kept none = elim (cases_Bool ((market t).keeps w Y b)) [ inl k ↦ absurd ((kept_seated Y b small k).0 none) | inr e ↦ e ]

    new_unseated : row_of t w b ≢ no_row → number (eqb (row_of t w b)) (bench_of t X w) ≡ 0
    new_unseated row =
        elim (cases_lt 0 (number (eqb (row_of t w b)) (bench_of t X w))) [
          | inr none ↦ omega arith
          | inl some ↦
              let on = ((best_of_bench X).kept (row_of t w b) row).0 (has_number (row_of t w b) (bench_of t X w) some) in
              let x = (has_rows_at t ok w l X (row_of t w b) on.0).1 in
              absurd (false≢true (sym new ∙ rw (row_found t ok w l b row).1 at x))
        ]

    -- y is out then
    module _ (y : ℕ) (is_out : y ≡ left_out (row_worth t) (row_of t w b) (bench_of t X w)) where
      number_bench : (r : ℕ) → number (eqb r) (bench_of t Y w) + cond (eqb r y) 1 0 ≡ number (eqb r) (bench_of t X w) + cond (eqb r (row_of t w b)) 1 0
      number_bench r = rw (← bench_taken_in, is_out) (number_taken_in (row_worth t) (row_of t w b) (rows_at t X w) (bench_of t X w) (best_of_bench X) (eqb r))

      -- all others are kept who were, and b
      pub others_kept : (c : ℕ) → c < applicants t → row_of t w c ≢ y → ((market t).keeps w X c ≡ true) ⊎ ((c ≡ b) × (row_of t w b ≢ no_row)) → (market t).keeps w Y c ≡ true
      others_kept c h ne k =
          let many = number_bench (row_of t w c) in
          let apart = ne_eqb (row_of t w c) y ne in
          elim k [
            | inl kept ↦
                let s = kept_seated X c h kept in
                let more = number_has (row_of t w c) (bench_of t X w) s.1 in
                on_kept s.0 (has_number (row_of t w c) (bench_of t Y w) (grind arith))
            | inr me ↦
                let row = row_found t ok w l b me.1 in
                let here = eq-eqb (row_of t w c) (row_of t w b) (ap (row_of t w) me.0) in
                on_kept (λ e. me.1 (sym (ap (row_of t w) me.0) ∙ e)) (has_number (row_of t w c) (bench_of t Y w) (grind arith))
          ]
        where
          on_kept : row_of t w c ≢ no_row → has (row_of t w c) (bench_of t Y w) ≡ true → (market t).keeps w Y c ≡ true
          on_kept row m = let found = row_found t ok w l c row in rw found.1 at (seated_kept Y (row_of t w c) row m).1

      gone_not_kept : y ≢ no_row → Of t w y → number (eqb y) (bench_of t Y w) ≡ 0 → (market t).keeps w Y (get_or t.row_applicants y 0) ≡ false
      gone_not_kept row at none =
          elim (cases_Bool ((market t).keeps w Y (get_or t.row_applicants y 0))) [
            | inr e ↦ e
            | inl k ↦
                let s = kept_seated Y _ (ok.rowed.1 y (row_small t ok w l y at)) k in
                let m = number_has y (bench_of t Y w) (rw (row_of_applicant t ok w l y at) at s.1) in
                absurd (omega arith)
          ]

      -- who is out is not kept, and was or is b
      pub out_not_kept : y ≢ no_row → Of t w y × ((market t).keeps w Y (get_or t.row_applicants y 0) ≡ false) × ((y ≡ row_of t w b) ⊎ ((market t).keeps w X (get_or t.row_applicants y 0) ≡ true))
      out_not_kept row =
          let many = number_bench y in
          let self = eq-eqb y y refl in
          let most = (best_of_bench X).once y row in
          let one = number_once X y row in
          elim (cases_eq y (row_of t w b)) [
            | inl e ↦
                let found = row_found t ok w l b (λ z. row (e ∙ z)) in
                let at : Of t w y = rw e found.0 in
                let new_there : number (eqb y) (bench_of t X w) ≡ 0 = rw e (new_unseated (λ z. row (e ∙ z))) in
                let none : number (eqb y) (bench_of t Y w) ≡ 0 = grind arith in
                (at, gone_not_kept row at none, inl e)
            | inr ne ↦
                let other = ne_eqb y (row_of t w b) ne in
                let was : 0 < number (eqb y) (bench_of t X w) = grind arith in
                let none : number (eqb y) (bench_of t Y w) ≡ 0 = grind arith in
                let s = seated_kept X y row (has_number y (bench_of t X w) was) in
                (s.0, gone_not_kept row s.0 none, inr s.1)
          ]
