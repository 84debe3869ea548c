-- Cuts: the round's are cuts, what somebody got is a place whose cut it reaches, and it is the first such of its list.
use Rattle.std.proofs.Common.{◌≡◌, ℕ, zero, suc, ◌<◌, ◌≤◌, min, Bool, true, false, ◌⊎◌, List, [], ◌∷◌, length, get_or, sym, refl, ◌∙◌, subst, inl, inr, arith}
use Rattle.std.proofs.lemmas.List.FromFn.{get_or-map-range_with_len}
use Rattle.std.proofs.lemmas.Bool.Decides.{nat_tests as tells}
use Rattle.std.proofs.lemmas.Bool.{eq-eqb, cases_lt, cases_eq}
use Rattle.round.specs.Places.{Round, point, nowhere, result}
use Rattle.round.specs.Promise.{Proper, Stable, Cut, Readable, rank, given}
use Rattle.round.specs.Cuts.{lowest, cut_at, cuts_of, reaches, first_of, HasCuts, ReachedCut, FirstReached}
use Rattle.round.proofs.Count.{count_pos, below_suc}
use Rattle.round.proofs.Ranks.{below_from_rank, rank_nowhere}
use Rattle.round.proofs.Same.{given_count}
use Rattle.round.proofs.Promised.{result_stable}

-- who is given p is counted
pub given_above : (m : ℕ → ℕ) (n a : ℕ) → a < n → 0 < given m (m a) n
given_above m n a l = rw (given_count m (m a) n) (count_pos _ n a l (eq-eqb (m a) (m a) refl))

-- `lowest` is what somebody given p has, and nobody given p has less; or nobody is given p
pub lowest_least : (r : Round) (m : ℕ → ℕ) (p n : ℕ) → (given m p n ≡ 0)
    ⊎ (((b : ℕ) → b < n → m b ≡ p → lowest r m p n ≤ point r p b) × ((b : ℕ) × (b < n) × (m b ≡ p) × (point r p b ≡ lowest r m p n)))
unfolding given lowest
lowest_least r m p zero = inl refl
lowest_least r m p (suc n) =
    elim (cases_eq (m n) p) [
      | inr ne ↦
          elim (lowest_least r m p n) [
            | inl none ↦ inl (grind (arith, tells))
            | inr l ↦
                let same : lowest r m p (suc n) ≡ lowest r m p n = grind (arith, tells) in
                inr (below_suc _ n (λ b lb e. let i = l.0 b lb e in omega arith) (λ e. absurd (ne e)), (l.1.0, omega arith, l.1.2, l.1.3 ∙ sym same))
          ]
      | inl e ↦
          elim (lowest_least r m p n) [
            | inl none ↦
                let same : lowest r m p (suc n) ≡ point r p n = grind (arith, tells) in
                inr (below_suc _ n (λ b lb i. let some = subst (λ (q : ℕ). 0 < given m q n) i (given_above m n b lb) in absurd (omega arith)) (λ _. omega arith), (n, omega arith, e, sym same))
            | inr l ↦
                let some = subst (λ (q : ℕ). 0 < given m q n) l.1.2 (given_above m n l.1.0 l.1.1) in
                let same : lowest r m p (suc n) ≡ min (point r p n) (lowest r m p n) = grind (arith, tells) in
                let low = below_suc (λ b. m b ≡ p → lowest r m p (suc n) ≤ point r p b) n (λ b lb i. let j = l.0 b lb i in omega arith) (λ _. omega arith) in
                elim (cases_lt (point r p n) (lowest r m p n))
                [ inl lt ↦ inr (low, (n, omega arith, e, omega arith)) | inr le ↦ inr (low, (l.1.0, omega arith, l.1.2, omega (arith, l.1.3))) ]
          ]
    ]

-- a stable assignment has cuts
pub cuts_from_stable : (r : Round) (m : ℕ → ℕ) → Stable r m → Cut r m (cuts_of r m)
unfolding Cut cuts_of cut_at
cuts_from_stable r m st p lp =
    let at = get_or-map-range_with_len (cut_at r m) 0 (length r.places) p p 0 lp (omega arith) in
    let room = st.room p lp in
    elim (cases_lt (given m p (length r.lists)) (get_or r.places p 0)) [
      | inl left ↦ inl (left, at ∙ grind (arith, tells))
      | inr le ↦
          let low : cut_at r m p ≡ lowest r m p (length r.lists) = grind (arith, tells) in
          elim (lowest_least r m p (length r.lists)) [
            | inl none ↦
                inr (
                  omega arith,
                  λ b lb e. let some = subst (λ (q : ℕ). 0 < given m q (length r.lists)) e (given_above m (length r.lists) b lb) in absurd (omega arith),
                  inr (omega arith),
                )
            | inr l ↦
                inr (
                  omega arith,
                  λ b lb e. let i = l.0 b lb e in omega arith,
                  inl (l.1.0, l.1.1, l.1.2, l.1.3 ∙ sym (at ∙ low)),
                )
          ]
    ]

module _ (r : Round) (ok : Proper r) (cs : List ℕ) (m : ℕ → ℕ) (st : Stable r m) (cut : Cut r m cs) where
  -- whoever reaches the cut of p has p or something dearer
  pub dearer_from_reached : (a p : ℕ) → a < length r.lists → p < length r.places → reaches r cs a p ≡ true → rank (get_or r.lists a []) (m a) ≤ rank (get_or r.lists a []) p
  unfolding Cut reaches
  dearer_from_reached a p la lp h =
      let f : (0 < get_or r.places p 0) × (0 < point r p a) × (get_or cs p 0 ≤ point r p a) = grind (arith, tells) in
      elim (cases_lt (rank (get_or r.lists a []) p) (rank (get_or r.lists a []) (m a))) [
        | inr le ↦ le
        | inl lt ↦
            let pair = st.no_pair a p la lp f.1 lt in
            elim (cut p lp) [
              | inl left ↦ absurd (omega arith)
              | inr c ↦
                  elim c.2
                  [ inl last ↦ let less = pair.1 last.0 last.1 last.2 in absurd (omega arith) | inr none ↦ absurd (omega arith) ]
            ]
      ]

  -- and what somebody has is a place whose cut it reaches
  pub reached_from_given : (a : ℕ) → a < length r.lists → (m a ≡ nowhere r) ⊎ ((rank (get_or r.lists a []) (m a) < length (get_or r.lists a [])) × (reaches r cs a (m a) ≡ true))
  unfolding Cut reaches
  reached_from_given a la =
      elim (st.own a la) [
        | inl e ↦ inl e
        | inr o ↦
            let lp = (below_from_rank r ok a (m a) o.0).1 in
            let some = given_above m (length r.lists) a la in
            let room = st.room (m a) lp in
            elim (cut (m a) lp)
            [ inl left ↦ inr (o.0, grind (arith, tells)) | inr c ↦ let le = c.1 a la refl in inr (o.0, grind (arith, tells)) ]
      ]

-- if only what comes later passes, the first that passes is what is asked for
pub first_of_none : (f : ℕ → Bool) (l : List ℕ) (d : ℕ) → ((p : ℕ) → rank l p < length l → f p ≡ false) → first_of f l d ≡ d
unfolding first_of rank
first_of_none f [] d h = refl
first_of_none f (q ∷ qs) d h =
    let first = h q in
    let ih = first_of_none f qs d (λ p lt. let i = h p in grind (arith, tells)) in
    grind (arith, tells)

pub first_of_is : (f : ℕ → Bool) (l : List ℕ) (d x : ℕ) → rank l x < length l → f x ≡ true → ((p : ℕ) → rank l p < rank l x → f p ≡ false) → first_of f l d ≡ x
unfolding first_of rank
first_of_is f [] d x lt t h = absurd (omega arith)
first_of_is f (q ∷ qs) d x lt t h =
    elim (cases_eq q x) [
      | inl e ↦ grind arith
      | inr ne ↦
          let first = h q in
          let ih = first_of_is f qs d x (grind (arith, tells)) t (λ p l. let i = h p in grind (arith, tells)) in
          grind (arith, tells)
    ]

pub has_cuts : HasCuts
unfolding HasCuts
has_cuts r ok = cuts_from_stable r (result r) (result_stable r ok)

pub readable : Readable
unfolding Readable reaches
readable r cs a p ok cut la lp some pts le =
    dearer_from_reached r ok cs (result r) (result_stable r ok) cut a p la lp (grind (arith, tells))

pub reached_cut : ReachedCut
unfolding ReachedCut
reached_cut r cs a ok cut la =
    elim (reached_from_given r ok cs (result r) (result_stable r ok) cut a la) [ inl e ↦ inl e | inr t ↦ inr t.1 ]

pub first_reached : FirstReached
unfolding FirstReached nowhere
first_reached r cs a ok cut la =
    let st = result_stable r ok in
    let before = dearer_from_reached r ok cs (result r) st cut a in
    let unreached : (p : ℕ) → rank (get_or r.lists a []) p < rank (get_or r.lists a []) (result r a) → rank (get_or r.lists a []) p < length (get_or r.lists a []) → reaches r cs a p ≡ false =
    λ p lt l. let i = before p la (below_from_rank r ok a p l).1 in grind arith in
    elim (reached_from_given r ok cs (result r) st cut a la) [
      | inl e ↦
          let used = rank_nowhere r ok a (result r a) (omega arith) in
          e ∙ sym (first_of_none _ (get_or r.lists a []) (nowhere r) (λ p l. unreached p (omega arith) l))
      | inr t ↦ sym (first_of_is _ (get_or r.lists a []) (nowhere r) (result r a) t.0 t.1 (λ p lt. unreached p lt (omega (arith, t.0))))
    ]
