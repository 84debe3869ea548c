-- No coalition gains: of those who send other lists than their true ones, not all get something dearer than at the end of the
-- true lists.
use Rattle.std.proofs.Common.{◌≡◌, ℕ, zero, suc, ◌+◌, ◌<◌, ◌≤◌, Bool, true, false, cond, not, ◌&&◌, eqb, ltb, ◌≢◌, ◌⊎◌, sym, refl, ◌∙◌, subst, inl, inr, arith}
use Rattle.std.proofs.lemmas.Bool.Decides.{nat_tests}
use Rattle.std.proofs.lemmas.Bool.{cases_lt, cases_Bool, false≢true, and_parts, and_from, and_left, lt-ltb}
use Rattle.round.specs.Market.{Wish, Market, Within, Lawful, Listed, asked, here, final, run, entries, count, sum, turned, held}
use Rattle.round.specs.Laws.{Agrees, with_wish}
use Rattle.round.proofs.Count.{count_mono, count_same, count_all, count_less, count_split, sum_mono, sum_each, find}
use Rattle.round.proofs.Askers.{same_tests, asked_from, asked_parts, asked_more, here_from, here_parts, here_asked, turned_parts}
use Rattle.round.proofs.Ends.{listed_below, reached_least, reached_justified, ClosedUnder, run_reached, move_moves, final_closed, final_steady}
use Rattle.round.proofs.Stability.{kept_here, count_at, sum_here_of}

-- Everybody of G is better off at u, under the lists w, than at the end of k; whoever is not of G has asked at u wherever it asks at
-- the end of k.
pub record Gain (k : Market) (w : Wish) (u : ℕ → ℕ) (G : ℕ → Bool) : Type 0 where
  pub placed : (a : ℕ) → G a ≡ true → u a < w.len a
  pub dearer : (a : ℕ) → G a ≡ true → k.wish.pos a (w.entry a (u a)) < final k a
  pub others : (p a : ℕ) → G a ≡ false → asked k.wish (final k) p a ≡ true → asked w u p a ≡ true

-- out of G's winners and of those of Q that are not of G
unfoldable mixed : (ℕ → Bool) → (ℕ → Bool) → (ℕ → Bool) → ℕ → Bool
mixed G X Q a = cond (G a) (X a) (Q a)

module _ (k : Market) (law : Lawful k) (w : Wish) (listed : Listed k.n k.m w) (u : ℕ → ℕ) (cl : ClosedUnder k w u) (G : ℕ → Bool) (gain : Gain k w u G) where
  -- how many of G win p at u, and how many have it at the end
  abbrev won : ℕ → ℕ
  won = count_at k.n w u G

  abbrev ended : ℕ → ℕ
  ended = count_at k.n k.wish (final k) G

  -- out of any Q in which all of G's winners of p are, p keeps as many of G as win it
  winners_kept : (p : ℕ) (Q : ℕ → Bool) → ((a : ℕ) → G a ≡ true → here w u p a ≡ true → Q a ≡ true) →
      ((a : ℕ) → G a ≡ false → Q a ≡ true → asked w u p a ≡ true) →
      won p ≤ count (λ a. k.keeps p Q a && G a) k.n
  unfolding mixed Within
  winners_kept p Q win other =
      let agg = law.way.aggregate p Z Q in_Q in
      let q = count_split (k.keeps p Q) G k.n in
      let z = count_split (k.keeps p Z) G k.n in
      let out = count_mono (λ a. k.keeps p Q a && not (G a)) (λ a. k.keeps p Z a && not (G a)) k.n (λ a _. outside a) in
      let «in» = count_mono (λ a. here w u p a && G a) (λ a. k.keeps p Z a && G a) k.n (λ a _. inside a) in
      omega arith
    where
      Z : ℕ → Bool
      Z = mixed G (here w u p) Q

      in_Q : Within Z Q
      in_Q a h = elim (cases_Bool (G a)) [ inl t ↦ win a t (grind arith) | inr e ↦ grind arith ]

      in_asked : Within Z (asked w u p)
      in_asked a h = elim (cases_Bool (G a)) [ inl t ↦ here_asked w u p a (grind arith) | inr e ↦ other a e (grind arith) ]

      outside : (a : ℕ) → (k.keeps p Q a && not (G a)) ≡ true → (k.keeps p Z a && not (G a)) ≡ true
      outside a h =
          let i = and_parts (k.keeps p Q a) (not (G a)) h in
          let q = law.way.own p Q a i.0 in
          let z : Z a ≡ true = grind arith in
          and_from (k.keeps p Z a) (not (G a)) (law.way.substitutes p Z Q in_Q a z i.0) i.1

      inside : (a : ℕ) → (here w u p a && G a) ≡ true → (k.keeps p Z a && G a) ≡ true
      inside a h =
          let i = and_parts (here w u p a) (G a) h in
          let z : Z a ≡ true = grind arith in
          and_from (k.keeps p Z a) (G a) (law.way.substitutes p Z (asked w u p) in_asked a z (cl p a i.0)) i.1

  -- what somebody of G wins it has passed at the end
  winner_passed : (p a : ℕ) → G a ≡ true → here w u p a ≡ true → k.wish.pos a p < final k a
  winner_passed p a g h =
      let i = here_parts w u p a h in
      let e = listed.back a p i.1 in
      let e' : w.entry a (u a) ≡ p = cc in
      rw e' at (gain.dearer a g)

  final_within : (a : ℕ) → final k a ≤ k.wish.len a
  final_within = (final_steady k law).within

  -- at each workshop as many of G as win it, or more, are there at the end
  ended_at_least : (p : ℕ) → won p ≤ ended p
  ended_at_least p =
      let f = final k in
      let kept = winners_kept p (asked k.wish f p)
      (λ a g h. let l = winner_passed p a g h in let i = final_within a in asked_from k.wish f p a (omega arith) (omega arith))
      (gain.others p) in
      let fewer = count_mono (λ a. k.keeps p (asked k.wish f p) a && G a) (λ a. here k.wish f p a && G a) k.n
      (λ a _ h.
      let i = and_parts (k.keeps p (asked k.wish f p) a) (G a) h in
      and_from (here k.wish f p a) (G a) (kept_here k law f (final_steady k law).justified p a i.0) i.1) in
      omega arith

  -- in all, as many of G win as there are
  all_win : sum won k.m ≡ count G k.n
  all_win =
      sum_here_of k.n k.m w listed u G
      ∙ count_same _ _ k.n (λ a _. same_tests (λ h. (and_parts (ltb (u a) (w.len a)) (G a) h).1) (λ g. let l = gain.placed a g in grind (arith, nat_tests)))

  -- placed at the end
  abbrev placed_of_G : ℕ → Bool
  placed_of_G a = ltb (final k a) (k.wish.len a) && G a

  all_end : sum ended k.m ≡ count placed_of_G k.n
  all_end = sum_here_of k.n k.m k.wish law.listed (final k) G

  placed_G : (a : ℕ) → a < k.n → placed_of_G a ≡ true → G a ≡ true
  placed_G a _ h = (and_parts (ltb (final k a) (k.wish.len a)) (G a) h).1

  -- so all of G are placed at the end too, and each workshop has as many of them as win it
  G_placed : (a : ℕ) → a < k.n → G a ≡ true → final k a < k.wish.len a
  G_placed a l g =
      let x = all_win in
      let y = all_end in
      let z = sum_mono won ended k.m (λ p _. ended_at_least p) in
      let all = count_all placed_of_G G k.n placed_G (omega arith) a l g in
      grind (arith, nat_tests)

  ended_same : (p : ℕ) → p < k.m → won p ≡ ended p
  ended_same p l =
      let x = all_win in
      let y = all_end in
      let z = count_mono placed_of_G G k.n placed_G in
      sum_each won ended k.m (λ p _. ended_at_least p) (omega arith) p l

  -- there is no step after which all of G have come to their end, but one of them not before it: the workshop where that one ends
  -- would have kept, before the step, as many of G as win it, who would all be there at the end beside it
  no_last_step : (t : ℕ) → ((a : ℕ) → G a ≡ true → run k (suc t) a ≡ final k a) → (a : ℕ) → a < k.n → G a ≡ true → run k t a ≢ final k a → ⊥
  unfolding run Within
  no_last_step t settled a l g ne =
      let enough = winners_kept p Q win (λ c e q. gain.others p c e (asked_more k.wish s f p before c q)) in
      let same = ended_same p (law.listed.small a (f a) placed) in
      let fewer = count_less (λ c. k.keeps p Q c && G c) (λ c. here k.wish f p c && G c) k.n (λ c _. stays c) a l
      (and_from (here k.wish f p a) (G a) (here_from k.wish f p a at_end (omega (arith, at_end, placed))) g) not_kept in
      omega arith
    where
      s : ℕ → ℕ
      s = run k t

      f : ℕ → ℕ
      f = final k

      p : ℕ
      p = k.wish.entry a (f a)

      Q : ℕ → Bool
      Q = asked k.wish s p

      before : (c : ℕ) → s c ≤ f c
      before = reached_least k law s f (run_reached k t) (final_closed k law)

      placed : f a < k.wish.len a
      placed = G_placed a l g

      at_end : k.wish.pos a p ≡ f a
      at_end = law.listed.there a (f a) placed

      step : (c : ℕ) → G c ≡ true → (f c ≡ s c) ⊎ ((turned k s c ≡ true) × (f c ≡ s c + 1))
      step c gc = elim (move_moves k s c) [ inl e ↦ inl (sym (settled c gc) ∙ e) | inr e ↦ inr (e.0, sym (settled c gc) ∙ e.1) ]

      win : (c : ℕ) → G c ≡ true → here w u p c ≡ true → Q c ≡ true
      win c gc h =
          let x = winner_passed p c gc h in
          let y = final_within c in
          let z : f c ≤ s c + 1 = elim (step c gc) [ inl e ↦ omega arith | inr e ↦ omega arith ] in
          asked_from k.wish s p c (omega arith) (omega arith)

      stays : (c : ℕ) → (k.keeps p Q c && G c) ≡ true → (here k.wish f p c && G c) ≡ true
      stays c h =
          let i = and_parts (k.keeps p Q c) (G c) h in
          let j = here_parts k.wish s p c (kept_here k law s (reached_justified k law s (run_reached k t)) p c i.0) in
          elim (step c i.1) [
            | inl e ↦ and_from (here k.wish f p c) (G c) (here_from k.wish f p c (omega arith) j.1) i.1
            | inr e ↦
                let e' : k.wish.entry c (s c) ≡ p = cc (law.listed.back c p j.1, j.0) in
                let out = subst (λ (x : ℕ). k.keeps x (asked k.wish s x) c ≡ false) e' (turned_parts k s c e.0).1 in
                absurd (false≢true (sym out ∙ i.0))
          ]

      not_kept : (k.keeps p Q a && G a) ≡ false
      not_kept =
          elim (cases_Bool (k.keeps p Q a)) [
            | inl h ↦
                let i = asked_parts k.wish s p a (law.way.own p Q a h) in
                let b = before a in
                absurd (ne (omega (arith, at_end)))
            | inr e ↦ and_left (k.keeps p Q a) (G a) e
          ]

  G_below : (a : ℕ) → G a ≡ true → a < k.n
  G_below a g = let x = gain.dearer a g in let y = final_within a in listed_below k law a 0 (omega (arith, x, y))

  not_settled : (t : ℕ) → ((a : ℕ) → G a ≡ true → run k t a ≡ final k a) → (b : ℕ) → G b ≡ true → ⊥
  unfolding run
  not_settled zero settled b g = let x = gain.dearer b g in let y = settled b g in omega (arith, x, y)
  not_settled (suc t) settled b g =
      elim (find (λ a. G a && not (eqb (run k t a) (final k a))) k.n) [
        | inl h ↦
            let i = and_parts (G h.0) (not (eqb (run k t h.0) (final k h.0))) h.2 in
            no_last_step t settled h.0 h.1 i.0 (λ e. grind (arith, nat_tests))
        | inr none ↦ not_settled t (λ a ga. let e = none a (G_below a ga) in grind (arith, nat_tests)) b g
      ]

  -- nobody is of G
  pub G_empty : (b : ℕ) → G b ≡ true → ⊥
  unfolding final
  G_empty = not_settled (entries k) (λ a _. refl)

-- of those who send other lists not all get something dearer, by their true lists, than the end of k gives them
pub not_all_gain_under : (k : Market) → Lawful k → (w : Wish) → Listed k.n k.m w → (u : ℕ → ℕ) → ClosedUnder k w u →
    (liar : ℕ → Bool) → ((a : ℕ) → liar a ≡ false → Agrees k.wish w a) → (b : ℕ) → b < k.n → liar b ≡ true →
    ((a : ℕ) → a < k.n → liar a ≡ true → k.wish.pos a (held (with_wish k w) u a) < final k a) → ⊥
unfolding held with_wish
not_all_gain_under k law w listed u cl liar same b l lb dear =
    G_empty k law w listed u cl G (record { placed = placed; dearer = dearer; others = others }) b (lt-ltb _ _ (dear b l lb))
  where
    G : ℕ → Bool
    G a = ltb (k.wish.pos a (held (with_wish k w) u a)) (final k a)

    placed : (a : ℕ) → G a ≡ true → u a < w.len a
    placed a g =
        elim (cases_lt (u a) (w.len a)) [
          | inl h ↦ h
          | inr h ↦
              let none : held (with_wish k w) u a ≡ k.m = grind (arith, nat_tests) in
              let x : k.wish.pos a k.m < final k a = grind (arith, nat_tests) in
              let y = (final_steady k law).within a in
              let z = law.listed.back a k.m (omega arith) in
              let m = law.listed.small a (k.wish.pos a k.m) (omega arith) in
              absurd (omega arith)
        ]

    dearer : (a : ℕ) → G a ≡ true → k.wish.pos a (w.entry a (u a)) < final k a
    dearer a g = let p = placed a g in grind (arith, nat_tests)

    others : (p a : ℕ) → G a ≡ false → asked k.wish (final k) p a ≡ true → asked w u p a ≡ true
    others p a e h =
        let i = asked_parts k.wish (final k) p a h in
        let true_list : liar a ≡ false =
        elim (cases_Bool (liar a)) [ inl t ↦ absurd (false≢true (sym e ∙ lt-ltb _ _ (dear a (listed_below k law a _ i.1) t))) | inr f ↦ f ] in
        let agrees = same a true_list in
        let at = agrees.pos p in
        let long = agrees.len in
        elim (cases_lt (u a) (w.len a)) [
          | inl lt ↦
              let was = agrees.pos (w.entry a (u a)) in
              let there = listed.there a (u a) lt in
              let le : final k a ≤ k.wish.pos a (w.entry a (u a)) = grind (arith, nat_tests) in
              asked_from w u p a (omega arith) (omega arith)
          | inr ge ↦ asked_from w u p a (omega arith) (omega arith)
        ]
