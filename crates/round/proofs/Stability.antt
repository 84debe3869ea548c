-- Stability in two words: a state is stable just where it is steady. So the end is stable and dearest for everybody, and all
-- stable states place the same applicants and as many at every workshop.
use Rattle.std.proofs.Common.{◌≡◌, ℕ, ◌<◌, ◌≤◌, Bool, true, cond, ◌&&◌, ltb, sym, ◌∙◌, inl, inr, arith}
use Rattle.std.proofs.lemmas.Bool.Decides.{nat_tests}
use Rattle.std.proofs.lemmas.Bool.{cases_lt, cases_eq, cases_Bool, false≢true}
use Rattle.round.specs.Market.{Wish, Market, Within, Lawful, Listed, Closed, Justified, Steady, StableAt, asked, here, joined_by, placed_at, count, sum}
use Rattle.round.proofs.Count.{count_mono, count_same, count_all, count_none, count_one, sum_same, sum_each, sum_rows}
use Rattle.round.proofs.Askers.{same_tests, asked_from, asked_parts, asked_more, asked_cases, here_from, here_parts, here_asked, here_within, refused_stays, irc}
use Rattle.round.proofs.Ends.{listed_below}

module _ (k : Market) (s : ℕ → ℕ) (p a : ℕ) where
  pub joined_self : joined_by k s p a a ≡ true
  unfolding joined_by
  joined_self = grind (arith, nat_tests)

  pub here_joined : (c : ℕ) → here k.wish s p c ≡ true → joined_by k s p a c ≡ true
  unfolding joined_by
  here_joined c h = grind (arith, nat_tests)

  -- if a has asked too, all of them have
  pub joined_asked : asked k.wish s p a ≡ true → Within (joined_by k s p a) (asked k.wish s p)
  unfolding joined_by Within
  joined_asked h c j =
      elim (cases_eq c a) [
        | inl e ↦ rw e h
        | inr ne ↦ here_asked k.wish s p c (grind (arith, nat_tests))
      ]

module _ (k : Market) (law : Lawful k) (s : ℕ → ℕ) where
  -- where whoever has passed is not kept, only those who ask now are
  pub kept_here : Justified k s → (p a : ℕ) → k.keeps p (asked k.wish s p) a ≡ true → here k.wish s p a ≡ true
  kept_here j p a h =
      let o = law.way.own p (asked k.wish s p) a h in
      elim (asked_cases k.wish s p a o) [
        | inl i ↦ i
        | inr lt ↦ absurd (false≢true (sym (j p a (asked_parts k.wish s p a o).1 lt) ∙ h))
      ]

  pub stable_from_steady : Steady k s → StableAt k s
  stable_from_steady st =
      record {
        within = st.within;
        kept = λ p a h. law.way.substitutes p (here k.wish s p) (asked k.wish s p) (here_within k.wish s p) a h (st.closed p a h);
        no_pair = λ p a l lt.
            irc law.way p (joined_by k s p a) (asked k.wish s p)
            (joined_asked k s p a (asked_from k.wish s p a (omega arith) l))
            (λ c h. here_joined k s p a c (kept_here st.justified p c h))
            a (listed_below k law a _ l)
            ∙ st.justified p a l lt;
      }

  pub steady_from_stable : StableAt k s → Steady k s
  steady_from_stable st = record { closed = closed; justified = justified; within = st.within }
    where
      justified : Justified k s
      justified p a l lt =
          refused_stays law.way p (joined_by k s p a) (asked k.wish s p)
          (joined_asked k s p a (asked_from k.wish s p a (omega arith) l))
          a (joined_self k s p a) (st.no_pair p a l lt)

      closed : Closed k s
      closed p a h =
          sym (irc law.way p (here k.wish s p) (asked k.wish s p) (here_within k.wish s p)
          (kept_here justified p) a (listed_below k law a _ (here_parts k.wish s p a h).1))
          ∙ st.kept p a h

  -- at a steady state a workshop has as many as it keeps
  pub count_kept : Steady k s → (p n : ℕ) → count (k.keeps p (asked k.wish s p)) n ≡ count (here k.wish s p) n
  count_kept st p n =
      count_same _ _ n (λ a _. same_tests (kept_here st.justified p a) (st.closed p a))

-- how many of G are at p
abbrev pub count_at : ℕ → Wish → (ℕ → ℕ) → (ℕ → Bool) → ℕ → ℕ
count_at n w s G p = count (λ a. here w s p a && G a) n

-- over all workshops, as many of a set are there as of it are placed
module _ (n m : ℕ) (w : Wish) (listed : Listed n m w) (s : ℕ → ℕ) where
  count_here : (a : ℕ) → count (λ p. here w s p a) m ≡ cond (ltb (s a) (w.len a)) 1 0
  count_here a =
      elim (cases_lt (s a) (w.len a)) [
        | inl l ↦
            let p = w.entry a (s a) in
            let e = listed.there a (s a) l in
            let one = count_one (λ p. here w s p a) m p (listed.small a (s a) l) (here_from w s p a e (omega arith))
            (λ q _ h. let i = here_parts w s q a h in let b = listed.back a q i.1 in cc) in
            grind (arith, nat_tests)
        | inr l ↦
            let none = count_none (λ p. here w s p a) m
            (λ q _. elim (cases_Bool (here w s q a)) [ inl h ↦ let i = here_parts w s q a h in absurd (omega arith) | inr e ↦ e ]) in
            grind (arith, nat_tests)
      ]

  pub sum_here_of : (G : ℕ → Bool) → sum (count_at n w s G) m ≡ count (λ a. ltb (s a) (w.len a) && G a) n
  sum_here_of G = sum_rows (λ p a. here w s p a && G a) (λ a. ltb (s a) (w.len a) && G a) m n (λ a _. rows a)
    where
      rows : (a : ℕ) → count (λ p. here w s p a && G a) m ≡ cond (ltb (s a) (w.len a) && G a) 1 0
      rows a =
          let one = count_here a in
          elim (cases_Bool (G a)) [
            | inl t ↦ let same = count_same (λ p. here w s p a && G a) (λ p. here w s p a) m (λ p _. grind arith) in grind arith
            | inr e ↦ let none = count_none (λ p. here w s p a && G a) m (λ p _. grind arith) in grind arith
          ]

module _ (k : Market) (s : ℕ → ℕ) where
  pub placed_lt : (a : ℕ) → placed_at k s a ≡ true → s a < k.wish.len a
  unfolding placed_at
  placed_lt a h = grind (arith, nat_tests)

  pub lt_placed : (a : ℕ) → s a < k.wish.len a → placed_at k s a ≡ true
  unfolding placed_at
  lt_placed a h = grind (arith, nat_tests)

  pub sum_here : Lawful k → sum (λ p. count (here k.wish s p) k.n) k.m ≡ count (placed_at k s) k.n
  unfolding placed_at
  sum_here law =
      sum_rows (here k.wish s) (placed_at k s) k.m k.n (λ a _. count_here k.n k.m k.wish law.listed s a)

-- two steady states, one of them no worse for anybody
module _ (k : Market) (law : Lawful k) (t s : ℕ → ℕ) (le : (a : ℕ) → t a ≤ s a) where
  placed_more : (a : ℕ) → placed_at k s a ≡ true → placed_at k t a ≡ true
  placed_more a h = let l = le a in let i = placed_lt k s a h in lt_placed k t a (omega arith)

  module _ (tt' : Steady k t) (ss : Steady k s) where
    count_here_more : (p : ℕ) → count (here k.wish t p) k.n ≤ count (here k.wish s p) k.n
    count_here_more p =
        let et = count_kept k law t tt' p k.n in
        let es = count_kept k law s ss p k.n in
        let agg = law.way.aggregate p (asked k.wish t p) (asked k.wish s p) (asked_more k.wish t s p le) in
        omega arith

    pub count_here_same : (p : ℕ) → p < k.m → count (here k.wish s p) k.n ≡ count (here k.wish t p) k.n
    count_here_same p l =
        let et = sum_here k t law in
        let es = sum_here k s law in
        let more = count_mono (placed_at k s) (placed_at k t) k.n (λ a _. placed_more a) in
        sym (sum_each (λ p. count (here k.wish t p) k.n) (λ p. count (here k.wish s p) k.n) k.m (λ p _. count_here_more p) (omega arith) p l)

    pub placed_same : (a : ℕ) → placed_at k s a ≡ placed_at k t a
    placed_same a =
        let et = sum_here k t law in
        let es = sum_here k s law in
        let same = sum_same (λ p. count (here k.wish s p) k.n) (λ p. count (here k.wish t p) k.n) k.m count_here_same in
        let all = count_all (placed_at k s) (placed_at k t) k.n (λ a _. placed_more a) (omega arith) a in
        same_tests (placed_more a) (λ h. all (listed_below k law a _ (placed_lt k t a h)) h)
