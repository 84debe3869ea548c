-- Who reaches the cut of a workshop in the end: whoever has a place there, and nobody who was turned down. So everybody reads off
-- the cuts what it got.
use Rattle.std.proofs.Common.{◌≡◌, ℕ, ◌<◌, ◌≤◌, Bool, true, false, eqb, ltb, ◌≢◌, length, get_or, sym, refl, ap, ◌∙◌, inl, inr, arith}
use Rattle.std.proofs.lemmas.List.{get_or_past}
use Rattle.std.proofs.lemmas.Bool.{cases_eq, cases_lt, cond-true, cond-false, lt-ltb, le-ltb, ltb-true, false≢true}
use Rattle.std.proofs.lemmas.Bool.Decides.{nat_tests}
use Rattle.layout.specs.Tables.{Tables, Proper, applicants, workshops, rows, list_length, list_at, has}
use Rattle.round.specs.ByPoints.{worth_of}
use Rattle.round.specs.Market.{Market, final, asked, here, placed_at}
use Rattle.round.proofs.Ends.{final_steady}
use Rattle.points.specs.Standing.{no_row, row_of, points_of_row, lot_of_row, row_worth, market}
use Rattle.bench.specs.Best.{above}
use Rattle.bench.proofs.Numbers.{number_le, number_has}
use Rattle.asking.specs.Ended.{told, bench_of, bench_at, rows_at}
use Rattle.points.proofs.Theory.{market_m}
use Rattle.asking.proofs.Tabled.{market_len, market_entry, getD_list}
use Rattle.asking.proofs.Standings.{row_found, row_small, row_worth_none, row_worth_some}
use Rattle.asking.proofs.Proper.{lawful}
use Rattle.asking.proofs.Gathered.{rows_at_has}
use Rattle.asking.proofs.Benched.{best_of_bench, kept_seated, seated_kept}
use Rattle.cuts.specs.Cuts.{position, first_that}
use Rattle.cuts.specs.Promised.{cut_at, own_points, reaches_cut, ToldByCuts}
use Rattle.cuts.proofs.Firsts.{first_that_none, first_that_is}
use Rattle.cuts.proofs.Seats.{last_least, last_passes, unreached_without, reached_from_last, unreached_from_last}

-- whoever has asked w in the end
abbrev pub asked_in : Tables → ℕ → ℕ → Bool
asked_in t w = asked (market t).wish (final (market t)) w

module _ (t : Tables) (ok : Proper t) (w : ℕ) (l : w < workshops t) where
  abbrev X : ℕ → Bool
  X = asked_in t w

  -- a's row is worth its own points there with its lot
  pub row_worth_own : (a : ℕ) → row_of t w a ≢ no_row → row_worth t (row_of t w a) ≡ worth_of (own_points t w a) (get_or t.lots a 0)
  unfolding row_worth
  row_worth_own a row =
      let found = row_found t ok w l a row in
      let lot : lot_of_row t (row_of t w a) ≡ get_or t.lots a 0 =
      cond-true _ _ _ (lt-ltb (row_of t w a) (rows t) (row_small t ok w l _ found.0)) ∙ ap (λ (c : ℕ). get_or t.lots c 0) found.1
      in
      ap (worth_of (own_points t w a)) lot

  -- whoever is kept reaches the cut
  pub reached_from_kept : (a : ℕ) → a < applicants t → (market t).keeps w X a ≡ true → reaches_cut t a w ≡ true
  unfolding cut_at bench_at
  reached_from_kept a h kept =
      let b = bench_of t X w in
      let seat = kept_seated t ok w l X a h kept in
      let r = row_of t w a in
      let found = row_found t ok w l a seat.0 in
      let some : 0 < length b = omega (arith, number_has r b seat.1, number_le (eqb r) b) in
      let points = ok.rowed.2 r (row_small t ok w l r found.0) in
      let least = last_least (row_worth t) b (best_of_bench t ok w l X).sorted r seat.1 in
      reached_from_last t b (own_points t w a) (get_or t.lots a 0) some points (omega (arith, row_worth_own a seat.0))

  -- whoever has asked and is not kept does not
  pub unreached_from_turned : (a : ℕ) → a < applicants t → X a ≡ true → (market t).keeps w X a ≡ false → reaches_cut t a w ≡ false
  unfolding cut_at bench_at
  unreached_from_turned a h came out =
      let b = bench_of t X w in
      let r = row_of t w a in
      let best = best_of_bench t ok w l X in
      elim (cases_eq r no_row) [
        | inl none ↦
            let past = get_or_past t.row_points no_row 0 (omega (arith, ok.rowed.0, ok.limited.3)) in
            unreached_without (own_points t w a) (get_or t.lots a 0) _ (ap (points_of_row t) none ∙ past)
        | inr row ↦
            let found = row_found t ok w l a row in
            let asker = rows_at_has t ok w l X r found.0 (rw found.1 came) in
            let some = row_worth_some t ok r (row_small t ok w l r found.0) in
            let own = row_worth_own a row in
            let absent : has r b ≡ true → ⊥ = λ m. false≢true (sym out ∙ rw found.1 at (seated_kept t ok w l X r row m).1) in
            let behind : length b ≤ above (row_worth t) (row_worth t r) (rows_at t X w) =
            elim (cases_lt (above (row_worth t) (row_worth t r) (rows_at t X w)) (length b))
            [ inl few ↦ absurd (absent ((best.kept r row).1 (asker, some, few))) | inr le ↦ le ]
            in
            let all : above (row_worth t) (row_worth t r) b ≡ length b = omega (arith, best.many (row_worth t r)) in
            unreached_from_last t b (own_points t w a) (get_or t.lots a 0) (λ seats.
            let more = ltb-true _ _ (last_passes (λ x. ltb (row_worth t r) (row_worth t x)) b seats all) in
            (λ e. omega (arith, ap (row_worth t) e, row_worth_none t ok), omega arith))
      ]

-- what stands at position j of a's list, and that the list has it there
module _ (t : Tables) (ok : Proper t) (a : ℕ) (h : a < applicants t) where
  abbrev k : Market
  k = market t

  abbrev at : ℕ → ℕ
  at j = get_or (list_at t a) j 0

  entry_is : (j : ℕ) → j < list_length t a → k.wish.entry a j ≡ at j
  entry_is j l = market_entry t ok a h j l ∙ sym (getD_list t ok a h j 0 l)

  listed_at : (j : ℕ) → j < list_length t a → (at j < workshops t) × (k.wish.pos a (at j) ≡ j)
  listed_at j l =
      let len = market_len t ok a h in
      let law = (lawful t ok).listed in
      let small = law.small a j (omega arith) in
      let there = law.there a j (omega arith) in
      (omega (arith, entry_is j l, market_m t), rw (entry_is j l) at there)

  reached_at : (j : ℕ) → j < list_length t a → final k a ≡ j → reaches_cut t a (at j) ≡ true
  unfolding here
  reached_at j l e =
      let len = market_len t ok a h in
      let p = listed_at j l in
      let stands : here k.wish (final k) (at j) a ≡ true = grind (arith, nat_tests) in
      reached_from_kept t ok (at j) p.0 a h ((final_steady k (lawful t ok)).closed (at j) a stands)

  unreached_at : (j : ℕ) → j < list_length t a → j < final k a → reaches_cut t a (at j) ≡ false
  unfolding asked
  unreached_at j l lt =
      let len = market_len t ok a h in
      let p = listed_at j l in
      let came : asked k.wish (final k) (at j) a ≡ true = grind (arith, nat_tests) in
      let passed = (final_steady k (lawful t ok)).justified (at j) a (omega arith) (omega arith) in
      unreached_from_turned t ok (at j) p.0 a h came passed

  pub told_first : told k a ≡ position (first_that (λ j. reaches_cut t a (at j)) (list_length t a))
  unfolding told placed_at
  told_first =
      let len = market_len t ok a h in
      elim (cases_lt (final k a) (list_length t a)) [
        | inl l ↦
            let first = first_that_is (λ j. reaches_cut t a (at j)) (list_length t a) (final k a) l (reached_at (final k a) l refl) (λ j lt. unreached_at j (omega arith) lt) in
            rw first (cond-true _ _ _ (lt-ltb (final k a) (k.wish.len a) (omega arith)))
        | inr le ↦
            let first = first_that_none (λ j. reaches_cut t a (at j)) (list_length t a) (λ j l. unreached_at j l (omega arith)) in
            rw first (cond-false _ _ _ (le-ltb (final k a) (k.wish.len a) (omega arith)))
      ]

pub told_by_cuts : ToldByCuts
told_by_cuts = told_first
