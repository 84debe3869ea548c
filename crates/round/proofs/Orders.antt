-- Asking by the given `refused`, one after the other, in groups or all together: all orders come to one end.
use Rattle.std.proofs.Common.{◌≡◌, ℕ, zero, suc, ◌<◌, false, List, length, get_or, sym, ap, ◌∙◌, inl, inr, arith}
use mathlib.Core.Path.{fun_ext}
use lib.ListN.{length-replicate, get_or-eq_default}
use Rattle.std.proofs.lemmas.Bool.{cases_lt, cases_Bool}
use Rattle.round.specs.Places.{Round, refused, steps, total}
use Rattle.round.specs.Promise.{Proper, Ends}
use Rattle.round.specs.Market.{Reached, start, then, Moves, Closed, got, held, asks_at, entries}
use Rattle.round.specs.ByPoints.{wish_of, market_of}
use Rattle.round.specs.Office.{AnyOrder, AllTogether, ComesTo, first, next, GoesOn, asks_from}
use Rattle.round.proofs.Askers.{turned_parts}
use Rattle.round.proofs.Ends.{reached_justified, closed_from_quiet}
use Rattle.round.proofs.Theorems.{same_end, few_asks}
use Rattle.round.proofs.Ranks.{market_lawful}
use Rattle.round.proofs.Ending.{length_steps, getD_steps_none, getD_steps_more, ends}
use Rattle.round.proofs.Bridge.{state_of, total_sum, refused_turned, asks_held, result_got, asks_same}

module _ (r : Round) (ok : Proper r) where
  comes_long : (at : List ℕ) → ComesTo r at → length at ≡ length r.lists
  comes_long _ first = length-replicate _ 0
  comes_long _ (next at to c on) = on.long ∙ comes_long at c

  -- nobody who is no applicant moves
  goes_on_moves : (at to : List ℕ) → length at ≡ length r.lists → Reached (market_of r) (state_of at) → GoesOn r at to → Moves (market_of r) (state_of at) (state_of to)
  goes_on_moves at to long reached on a =
      elim (cases_lt a (length r.lists)) [
        | inl l ↦
            elim (on.each a l) [
              | inl e ↦ inl e
              | inr t ↦ inr (sym (refused_turned r ok at (reached_justified (market_of r) (market_lawful r ok) _ reached) a l) ∙ t.0, t.1)
            ]
        | inr l ↦
            let i = on.long in
            inl (get_or-eq_default to 0 (omega arith) ∙ sym (get_or-eq_default at 0 (omega arith)))
      ]

  -- asking comes to states that the market reaches
  pub comes_reached : (at : List ℕ) → ComesTo r at → Reached (market_of r) (state_of at)
  unfolding steps
  comes_reached _ first = start _ (getD_steps_none r)
  comes_reached _ (next at to c on) =
      then (state_of at) (state_of to) (comes_reached at c) (goes_on_moves at to (comes_long at c) (comes_reached at c) on)

  -- and where nobody is refused nobody is turned down
  pub closed_from_unrefused : (at : List ℕ) → Reached (market_of r) (state_of at) → ((a : ℕ) → a < length r.lists → refused r at a ≡ false) → Closed (market_of r) (state_of at)
  unfolding market_of
  closed_from_unrefused at reached none =
      closed_from_quiet (market_of r) (market_lawful r ok) (state_of at)
      (λ a.
      elim (cases_lt a (length r.lists)) [
        | inl l ↦ sym (refused_turned r ok at (reached_justified (market_of r) (market_lawful r ok) _ reached) a l) ∙ none a l
        | inr l ↦
            let z = (market_lawful r ok).listed.outside a l in
            let t = turned_parts (market_of r) (state_of at) a in
            grind arith
      ])

pub any_order : AnyOrder
unfolding AnyOrder got asks_from asks_at entries market_of wish_of
any_order r at ok comes none =
    let law = market_lawful r ok in
    let reached = comes_reached r ok at comes in
    let end = same_end (market_of r) law (state_of at) reached (closed_from_unrefused r ok at reached none) in
    let few = few_asks (market_of r) in
    let same = asks_same r ok in
    let all = total_sum r.lists in (
      λ a. asks_held r ok at a ∙ ap {B = ℕ} (λ (s : ℕ → ℕ). held (market_of r) s a) (fun_ext end.0) ∙ sym (result_got r ok a),
      end.1 ∙ sym same,
      omega arith,
    )

-- a given step is one in which all who are turned down go on
step_goes_on : (r : Round) (t : ℕ) → GoesOn r (steps r t) (steps r (suc t))
step_goes_on r t =
    record {
      long = length_steps r (suc t) ∙ sym (length_steps r t);
      each =
          λ a l.
          let e = getD_steps_more r t a l in
          elim (cases_Bool (refused r (steps r t) a)) [ inl h ↦ inr (h, grind arith) | inr h ↦ inl (grind arith) ];
    }

steps_come : (r : Round) (t : ℕ) → ComesTo r (steps r t)
unfolding steps
steps_come r zero = first
steps_come r (suc t) = next (steps r t) (steps r (suc t)) (steps_come r t) (step_goes_on r t)

pub all_together : AllTogether
unfolding AllTogether Ends steps
all_together r = (
  steps_come r,
  λ a l.
      let more = getD_steps_more r (total r.lists) a l in
      let same = ap {B = ℕ} (λ (at : List ℕ). get_or at a 0) (ends r) in
      grind arith,
)
