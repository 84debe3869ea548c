-- Asking in any order comes to one end: every reached state lies at or before every closed one, and asking all together
-- comes to a closed state after as many steps as there are list entries.
use Rattle.std.proofs.Common.{◌≡◌, ℕ, zero, suc, ◌+◌, ◌<◌, ◌≤◌, min, true, false, ◌⊎◌, sym, refl, ap, ◌∙◌, subst, inl, inr, arith}
use mathlib.Core.Path.{fun_ext}
use Rattle.std.proofs.lemmas.Bool.{cases_lt, cases_eq, cases_Bool, false≢true}
use Rattle.round.specs.Market.{Wish, Market, Lawful, Reached, start, then, Moves, Closed, Justified, Steady, asked, here, turned, move, run, final, entries, asks_at, sum}
use Rattle.round.proofs.Count.{sum_mono, sum_same, sum_less, find}
use Rattle.round.proofs.Askers.{asked_from, asked_more, here_from, here_parts, turned_parts, kept_from_unturned, move_stays, move_on, refused_stays}

-- u is closed at the workshops of k under the lists w
abbrev pub ClosedUnder : Market → Wish → (ℕ → ℕ) → Type 0
ClosedUnder k w u = (p a : ℕ) → here w u p a ≡ true → k.keeps p (asked w u p) a ≡ true

module _ (k : Market) where
  -- nobody is turned down
  abbrev pub Quiet : (ℕ → ℕ) → Type 0
  Quiet s = (a : ℕ) → turned k s a ≡ false

  pub moves_on : (s t : ℕ → ℕ) → Moves k s t → (a : ℕ) → s a ≤ t a
  moves_on s t mv a = elim (mv a) [ inl e ↦ omega arith | inr e ↦ omega arith ]

  pub move_moves : (s : ℕ → ℕ) → Moves k s (move k s)
  move_moves s a = elim (cases_Bool (turned k s a)) [ inl t ↦ inr (t, move_on k s a t) | inr e ↦ inl (move_stays k s a e) ]

  pub run_reached : (t : ℕ) → Reached k (run k t)
  unfolding run
  run_reached zero = start (λ _. 0) (λ a. refl)
  run_reached (suc t) = then (run k t) (move k (run k t)) (run_reached t) (move_moves (run k t))

  pub reached_within : (s : ℕ → ℕ) → Reached k s → (a : ℕ) → s a ≤ k.wish.len a
  reached_within _ (start s h) a = let i = h a in omega arith
  reached_within _ (then s t r mv) a =
      let ih = reached_within s r a in
      elim (mv a) [ inl e ↦ omega arith | inr e ↦ let i = turned_parts k s a e.0 in omega arith ]

module _ (k : Market) (law : Lawful k) where
  -- somebody with an entry is an applicant
  pub listed_below : (a j : ℕ) → j < k.wish.len a → a < k.n
  listed_below a j l =
      elim (cases_lt a k.n) [ inl h ↦ h | inr h ↦ let e = law.listed.outside a h in absurd (omega arith) ]

  -- a state is closed where nobody is turned down
  pub closed_from_quiet : (s : ℕ → ℕ) → Quiet k s → Closed k s
  closed_from_quiet s q p a h =
      let i = here_parts k.wish s p a h in
      let e = law.listed.back a p i.1 in
      let e' : k.wish.entry a (s a) ≡ p = cc in
      let kept = kept_from_unturned k s a (q a) (omega arith) in
      subst (λ (x : ℕ). k.keeps x (asked k.wish s x) a ≡ true) e' kept

  pub quiet_from_closed : (s : ℕ → ℕ) → Closed k s → Quiet k s
  quiet_from_closed s cl a =
      elim (cases_Bool (turned k s a)) [
        | inl t ↦
            let i = turned_parts k s a t in
            let e = law.listed.there a (s a) i.0 in
            let h = cl (k.wish.entry a (s a)) a (here_from k.wish s (k.wish.entry a (s a)) a e (omega arith)) in
            absurd (false≢true (sym i.1 ∙ h))
        | inr e ↦ e
      ]

  -- every reached state lies at or before every closed one
  pub reached_least : (s t : ℕ → ℕ) → Reached k s → Closed k t → (a : ℕ) → s a ≤ t a
  reached_least _ t (start s h) cl a = let i = h a in omega arith
  reached_least _ t (then s u r mv) cl a =
      let ih = λ (b : ℕ). reached_least s t r cl b in
      let l = ih a in
      elim (mv a) [
        | inl e ↦ omega arith
        | inr e ↦
            let p = k.wish.entry a (s a) in
            let i = turned_parts k s a e.0 in
            let at = law.listed.there a (s a) i.0 in
            elim (cases_eq (s a) (t a)) [
              | inr ne ↦ omega arith
              | inl same ↦
                  let out = refused_stays law.way p (asked k.wish s p) (asked k.wish t p) (asked_more k.wish s t p ih) a
                  (asked_from k.wish s p a (omega arith) (omega arith)) i.1 in
                  absurd (false≢true (sym out ∙ cl p a (here_from k.wish t p a (at ∙ same) (omega arith))))
            ]
      ]

  -- whoever has passed a workshop was turned down there, and still is
  pub reached_justified : (s : ℕ → ℕ) → Reached k s → Justified k s
  reached_justified _ (start s h) p a l le = let i = h a in absurd (omega arith)
  reached_justified _ (then s t r mv) p a l le =
      elim (cases_lt (k.wish.pos a p) (s a)) [
        | inl lt ↦ stays (omega arith) (reached_justified s r p a l lt)
        | inr ge ↦
            elim (mv a) [
              | inl e ↦ absurd (omega arith)
              | inr e ↦
                  let same : k.wish.pos a p ≡ s a = omega arith in
                  let e' : k.wish.entry a (s a) ≡ p = cc (law.listed.back a p l) in
                  stays (omega arith) (subst (λ (x : ℕ). k.keeps x (asked k.wish s x) a ≡ false) e' (turned_parts k s a e.0).1)
            ]
      ]
    where
      stays : k.wish.pos a p ≤ s a → k.keeps p (asked k.wish s p) a ≡ false → k.keeps p (asked k.wish t p) a ≡ false
      stays h =
          refused_stays law.way p (asked k.wish s p) (asked k.wish t p) (asked_more k.wish s t p (moves_on k s t mv)) a
          (asked_from k.wish s p a h l)

  -- where nobody is turned down nothing moves any more
  quiet_stays : (s : ℕ → ℕ) → Quiet k s → Quiet k (move k s)
  quiet_stays s q = subst (λ (t : ℕ → ℕ). Quiet k t) (sym (fun_ext (λ a. move_stays k s a (q a)))) q

  quiet_or_turned : (s : ℕ → ℕ) → ((a : ℕ) × (a < k.n) × (turned k s a ≡ true)) ⊎ Quiet k s
  quiet_or_turned s =
      elim (find (turned k s) k.n) [
        | inl h ↦ inl h
        | inr none ↦
            inr (λ a. elim (cases_Bool (turned k s a)) [ inl t ↦ none a (listed_below a (s a) (turned_parts k s a t).0) | inr e ↦ e ])
      ]

  -- at each step nobody is turned down any more, or somebody has moved on
  run_grows : (t : ℕ) → Quiet k (run k t) ⊎ (t ≤ sum (run k t) k.n)
  unfolding run
  run_grows zero = inr (omega arith)
  run_grows (suc t) =
      elim (run_grows t) [
        | inl q ↦ inl (quiet_stays (run k t) q)
        | inr le ↦
            elim (quiet_or_turned (run k t)) [
              | inr q ↦ inl (quiet_stays (run k t) q)
              | inl h ↦
                  let on = move_on k (run k t) h.0 h.2 in
                  let more = sum_less (run k t) (move k (run k t)) k.n (λ a _. moves_on k (run k t) (move k (run k t)) (move_moves k (run k t)) a) h.0 h.1 (omega arith) in
                  inr (omega arith)
            ]
      ]

  pub final_reached : Reached k (final k)
  unfolding final
  final_reached = run_reached k (entries k)

  pub final_quiet : Quiet k (final k)
  unfolding final entries
  final_quiet =
      elim (run_grows (entries k)) [
        | inl q ↦ q
        | inr le ↦
            elim (quiet_or_turned (final k)) [
              | inr q ↦ q
              | inl h ↦
                  let more = sum_less (final k) k.wish.len k.n (λ a _. reached_within k (final k) final_reached a) h.0 h.1 (turned_parts k (final k) h.0 h.2).0 in
                  absurd (omega arith)
            ]
      ]

  pub final_closed : Closed k (final k)
  final_closed = closed_from_quiet (final k) final_quiet

  pub final_steady : Steady k (final k)
  final_steady =
      record {
        closed = final_closed;
        justified = reached_justified (final k) final_reached;
        within = reached_within k (final k) final_reached;
      }

  -- a reached closed state is the end
  pub reached_closed_final : (s : ℕ → ℕ) → Reached k s → Closed k s → (a : ℕ) → s a ≡ final k a
  reached_closed_final s r cl a =
      let le = reached_least s (final k) r final_closed a in
      let ge = reached_least (final k) s final_reached cl a in
      omega arith

pub asks_at_same : (k : Market) (s t : ℕ → ℕ) → ((a : ℕ) → s a ≡ t a) → asks_at k s ≡ asks_at k t
unfolding asks_at
asks_at_same k s t h = sum_same _ _ k.n (λ a _. ap (λ (x : ℕ). min (x + 1) (k.wish.len a)) (h a))

pub asks_at_few : (k : Market) (s : ℕ → ℕ) → asks_at k s ≤ entries k
unfolding asks_at entries
asks_at_few k s = sum_mono _ _ k.n (λ a _. omega arith)
