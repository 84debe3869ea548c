-- One applicant more: whoever sends a list where it had none makes nobody else's place dearer.
use Rattle.std.proofs.Common.{◌≡◌, ℕ, ◌<◌, ◌≤◌, cond, eqb, ◌≢◌, ap, ◌∙◌, arith}
use Rattle.std.proofs.lemmas.Bool.Decides.{nat_tests}
use Rattle.round.specs.Market.{Wish, Market, Within, Lawful, Closed, asked, final}
use Rattle.round.specs.Laws.{Agrees}
use Rattle.round.proofs.Askers.{asked_from, asked_parts, here_from, here_parts, here_asked}
use Rattle.round.proofs.Ends.{ClosedUnder, reached_least, final_reached}

-- u, with b at the start of its list
unfoldable without : ℕ → (ℕ → ℕ) → ℕ → ℕ
without b u a = cond (eqb a b) 0 (u a)

-- where only b, whose list was empty, has another list, no other gets anything dearer than before
pub one_more_under : (k : Market) → Lawful k → (w : Wish) (b : ℕ) → k.wish.len b ≡ 0 → ((a : ℕ) → a ≢ b → Agrees k.wish w a) →
    (u : ℕ → ℕ) → ClosedUnder k w u → (a : ℕ) → a ≢ b → final k a ≤ u a
unfolding without Within
one_more_under k law w b empty same u cl a ne =
    let le = reached_least k law (final k) t (final_reached k law) closed a in
    grind (arith, nat_tests)
  where
    t : ℕ → ℕ
    t = without b u

    other : (c p : ℕ) → k.wish.pos c p < k.wish.len c → (c ≢ b) × (k.wish.pos c p ≡ w.pos c p) × (k.wish.len c ≡ w.len c) × (t c ≡ u c)
    other c p l =
        let nb : c ≢ b = λ e. absurd (let e' : k.wish.len c ≡ 0 = ap k.wish.len e ∙ empty in omega arith) in
        (nb, (same c nb).pos p, (same c nb).len, grind (arith, nat_tests))

    closed : Closed k t
    closed p c h =
        let i = here_parts k.wish t p c h in
        let o = other c p i.1 in
        law.way.substitutes p (asked k.wish t p) (asked w u p)
        (λ d j.
        let x = asked_parts k.wish t p d j in
        let y = other d p x.1 in
        asked_from w u p d (omega arith) (omega arith))
        c (here_asked k.wish t p c h)
        (cl p c (here_from w u p c (omega arith) (omega arith)))
