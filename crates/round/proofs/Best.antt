-- Keeping the best by points is a lawful way of keeping, where no two have the same worth at a workshop.
-- In order: whom it keeps, in words; no more than the places; as many as it can; the laws.
use Rattle.std.proofs.Common.{◌≡◌, ℕ, ◌+◌, ◌<◌, ◌≤◌, Bool, true, false, not, ◌&&◌, ◌||◌, eqb, ltb, leb, ◌⊎◌, inl, inr, arith}
use Rattle.std.proofs.lemmas.Bool.Decides.{nat_tests}
use Rattle.round.specs.Market.{Way, Within, count}
use Rattle.round.specs.ByPoints.{ahead_of, keeps_best}
use Rattle.round.proofs.Count.{count_mono, count_but_one, count_none, best, least}

module _ (places : ℕ → ℕ) (worth : ℕ → ℕ → ℕ) (n : ℕ) where
  -- whoever is kept has asked, has points, and fewer than the places go ahead of it
  pub kept_facts : (p : ℕ) (X : ℕ → Bool) (a : ℕ) → keeps_best places worth n p X a ≡ true → (X a ≡ true) × (0 < worth p a) × (ahead_of worth n p X a < places p)
  unfolding keeps_best
  kept_facts p X a h = grind (arith, nat_tests)

  -- and whoever is such is kept
  pub kept_from : (p : ℕ) (X : ℕ → Bool) (a : ℕ) → X a ≡ true → 0 < worth p a → ahead_of worth n p X a < places p → keeps_best places worth n p X a ≡ true
  unfolding keeps_best
  kept_from p X a x w l = grind (arith, nat_tests)

  -- whoever asked, has points and is not kept has all places taken by those ahead
  pub crowd_from : (p : ℕ) (X : ℕ → Bool) (a : ℕ) → X a ≡ true → 0 < worth p a → keeps_best places worth n p X a ≡ false → places p ≤ ahead_of worth n p X a
  unfolding keeps_best
  crowd_from p X a x w l = grind (arith, nat_tests)

  -- of those who asked just these are not kept
  pub not_kept : (p : ℕ) (X : ℕ → Bool) (a : ℕ) → X a ≡ true → not (keeps_best places worth n p X a) ≡ (eqb (worth p a) 0 || leb (places p) (ahead_of worth n p X a))
  unfolding keeps_best
  not_kept p X a x = grind (arith, nat_tests)

  -- more rivals, more ahead
  pub ahead_mono : (p : ℕ) (X Y : ℕ → Bool) → Within X Y → (a : ℕ) → ahead_of worth n p X a ≤ ahead_of worth n p Y a
  unfolding ahead_of Within
  ahead_mono p X Y h a = count_mono _ _ n (λ b _ e. let y = h b in grind arith)

  module _ (one : (p a b : ℕ) → a < n → b < n → 0 < worth p a → worth p a ≡ worth p b → a ≡ b) where
    -- at most as many are kept as there are places: all others of those kept go ahead of the one with the least worth
    pub few : (p : ℕ) (X : ℕ → Bool) → count (keeps_best places worth n p X) n ≤ places p
    unfolding ahead_of
    few p X =
        elim (least (keeps_best places worth n p X) (worth p) n) [
          | inl s ↦
              let fa = kept_facts p X s.0 s.2 in
              let all_ahead : count (keeps_best places worth n p X) n ≤ 1 + ahead_of worth n p X s.0 =
              count_but_one _ _ n s.0
              (λ b l ne k.
              let fb = kept_facts p X b k in
              let le = s.3 b l k in
              let apart = one p b s.0 l s.1 fb.1 in
              grind (arith, nat_tests)) in
              omega arith
          | inr no_one ↦ let z = count_none _ n no_one in omega arith
        ]

    -- all who asked and have points are kept, or all places are taken: everybody ahead of the best that is not kept is kept
    pub full : (p : ℕ) (X : ℕ → Bool) → ((a : ℕ) → a < n → X a ≡ true → 0 < worth p a → keeps_best places worth n p X a ≡ true) ⊎ (places p ≤ count (keeps_best places worth n p X) n)
    unfolding ahead_of
    full p X =
        elim (best (λ a. X a && (ltb 0 (worth p a) && not (keeps_best places worth n p X a))) (worth p) n) [
          | inl s ↦
              let out : (X s.0 ≡ true) × (0 < worth p s.0) × (keeps_best places worth n p X s.0 ≡ false) = grind (arith, nat_tests) in
              let crowd = crowd_from p X s.0 out.0 out.1 out.2 in
              let all_kept : ahead_of worth n p X s.0 ≤ count (keeps_best places worth n p X) n =
              count_mono _ _ n (λ b l e. let le = s.3 b l in grind (arith, nat_tests)) in
              inr (omega arith)
          | inr no_one ↦ inl (λ a l x w. let k = no_one a l in grind (arith, nat_tests))
        ]

    -- keeping the best by points is a way of keeping
    pub way_by_points : Way n (keeps_best places worth n)
    unfolding Within
    way_by_points =
        record {
          own = λ p X a h. (kept_facts p X a h).0;
          substitutes =
              λ p X Y h a x k.
              let f = kept_facts p Y a k in
              let fewer = ahead_mono p X Y h a in
              kept_from p X a x f.1 (omega arith);
          aggregate =
              λ p X Y h.
              elim (full p Y) [
                | inl all ↦ count_mono _ _ n (λ a l k. let f = kept_facts p X a k in all a l (h a f.0) f.1)
                | inr taken ↦ let f = few p X in omega arith
              ];
        }
