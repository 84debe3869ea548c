-- The theorems of deferred acceptance, each with its proof: what the contracts of src/lib.rt and the crates above cite.
use Rattle.std.proofs.Common.{◌≡◌, eqb, refl, inl, inr}
use Rattle.std.proofs.lemmas.Bool.{cases_lt, eqb-true, eqb-false, eq-eqb}
use Rattle.round.specs.Laws.{SameEnd, EndClosed, FewAsks, EndStable, EndDearest, SameNumbers, OneMore, NotAllGain, NoGain, with_wish}
use Rattle.round.specs.Market.{asks, final, got}
use Rattle.round.proofs.Ends.{reached_closed_final, asks_at_same, asks_at_few, final_reached, final_closed, final_steady, reached_least}
use Rattle.round.proofs.Stability.{stable_from_steady, steady_from_stable, placed_same, count_here_same}
use Rattle.round.proofs.Newcomer.{one_more_under}
use Rattle.round.proofs.Coalition.{not_all_gain_under}

pub same_end : SameEnd
unfolding asks
same_end k law s r cl = let e = reached_closed_final k law s r cl in (e, asks_at_same k s (final k) e)

pub end_closed : EndClosed
end_closed k law = (final_reached k law, final_closed k law)

pub few_asks : FewAsks
unfolding asks
few_asks k = asks_at_few k (final k)

pub end_stable : EndStable
end_stable k law = stable_from_steady k law (final k) (final_steady k law)

pub end_dearest : EndDearest
end_dearest k law s st = reached_least k law (final k) s (final_reached k law) (steady_from_stable k law s st).closed

pub same_numbers : SameNumbers
same_numbers k law s st =
    let le = end_dearest k law s st in
    let steady = steady_from_stable k law s st in
    (placed_same k law (final k) s le (final_steady k law) steady, count_here_same k law (final k) s le (final_steady k law) steady)

pub one_more : OneMore
unfolding with_wish
one_more k w b law law' empty same =
    one_more_under k law w b empty same (final (with_wish k w)) (final_closed (with_wish k w) law')

pub not_all_gain : NotAllGain
unfolding with_wish got
not_all_gain k w liar law law' =
    not_all_gain_under k law w law'.listed (final (with_wish k w)) (final_closed (with_wish k w) law') liar

pub no_gain : NoGain
no_gain k w b law law' lt same =
    elim (cases_lt (k.wish.pos b (got (with_wish k w) b)) (final k b)) [
      | inr h ↦ h
      | inl l ↦
          absurd (not_all_gain k w (λ a. eqb a b) law law' (λ a e. same a (eqb-false a b e)) b lt (eq-eqb b b refl)
          (λ a _ e. let i : a ≡ b = eqb-true a b e in rw i l))
    ]
