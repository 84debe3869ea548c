-- The given statements, and those beyond them, each with its proof: what the contracts of src/given.rt and the crates above cite.
use Rattle.std.proofs.Common.{◌≡◌, ℕ, ◌<◌, ◌≤◌, false, ◌≢◌, List, [], length, get_or, set, sym, refl, ap, ◌∙◌, subst, inl, inr, arith, length-set, get_or-set_other, get_or-set_same}
use mathlib.Core.Path.{fun_ext}
use Rattle.std.proofs.lemmas.Bool.Decides.{nat_tests}
use Rattle.round.specs.Places.{Round, point, nowhere, result}
use Rattle.round.specs.Promise.{Proper, Stable, rank, with_list, Truthful, BestStable, SameLeft, MoreApplicants}
use Rattle.round.specs.Market.{Market, Lawful, final, got, placed_at}
use Rattle.round.specs.Laws.{with_wish, Agrees}
use Rattle.round.specs.ByPoints.{keeps_best, wish_of, market_of}
use Rattle.round.specs.Office.{position_of, with_lists, NotAllLiarsGain}
use Rattle.round.proofs.Theorems.{end_stable, end_dearest, same_numbers, one_more, not_all_gain, no_gain}
use Rattle.round.proofs.Ranks.{rank_nowhere, market_lawful}
use Rattle.round.proofs.Bridge.{result_got}
use Rattle.round.proofs.Same.{stable_assigns, stable_from_given, stable_held, position_held, count_given}

-- what somebody got stands at its last position
pub rank_result : (r : Round) → Proper r → (a : ℕ) → rank (get_or r.lists a []) (result r a) ≡ final (market_of r) a
unfolding got position_of
rank_result r ok a =
    rw (result_got r ok a) (position_held r ok (final (market_of r)) (end_stable (market_of r) (market_lawful r ok)).within a)

-- the result is stable
pub result_stable : (r : Round) → Proper r → Stable r (result r)
unfolding got
result_stable r ok =
    rw (fun_ext (result_got r ok)) (stable_held r ok (final (market_of r)) (end_stable (market_of r) (market_lawful r ok)))

pub best_stable : BestStable
unfolding BestStable position_of
best_stable r ok = (
  result_stable r ok,
  λ m st a l. rw (rank_result r ok a) (end_dearest (market_of r) (market_lawful r ok) _ (stable_from_given r ok m st) a),
)

-- placed in the market's words and in those of an assignment
module _ (r : Round) (ok : Proper r) (m : ℕ → ℕ) (st : Stable r m) (a : ℕ) (l : a < length r.lists) where
  unplaced_from_nowhere : m a ≡ nowhere r → placed_at (market_of r) (position_of r m) a ≡ false
  unfolding placed_at market_of wish_of position_of nowhere
  unplaced_from_nowhere e = let i = rank_nowhere r ok a (m a) (omega arith) in grind (arith, nat_tests)

  nowhere_from_unplaced : placed_at (market_of r) (position_of r m) a ≡ false → m a ≡ nowhere r
  unfolding placed_at market_of wish_of position_of nowhere
  nowhere_from_unplaced h = elim (stable_assigns r ok m st a l) [ inl e ↦ e | inr lt ↦ absurd (grind (arith, nat_tests)) ]

pub same_left : SameLeft
unfolding SameLeft market_of wish_of
same_left r m n ok stm stn =
    let law = market_lawful r ok in
    let sm = same_numbers (market_of r) law (position_of r m) (stable_from_given r ok m stm) in
    let sn = same_numbers (market_of r) law (position_of r n) (stable_from_given r ok n stn) in (
      λ a l e. nowhere_from_unplaced r ok n stn a l (sn.0 a ∙ sym (sm.0 a) ∙ unplaced_from_nowhere r ok m stm a l e),
      λ p lp. count_given r ok m (stable_assigns r ok m stm) p lp ∙ sm.1 p lp ∙ sym (sn.1 p lp) ∙ sym (count_given r ok n (stable_assigns r ok n stn) p lp),
    )

-- Other lists to the same workshops: the market is the old one with the new lists.
module _ (r : Round) (ls : List (List ℕ)) (long : length ls ≡ length r.lists) where
  other_market : with_wish (market_of r) (wish_of (with_lists r ls)) ≡ market_of (with_lists r ls)
  unfolding with_wish market_of with_lists wish_of nowhere point
  other_market =
      ap
      {B = Market}
      (λ (n : ℕ). record { n = n; m = length r.places; keeps = keeps_best (λ p. get_or r.places p 0) (point r) n; wish = wish_of (with_lists r ls) })
      (sym long)

  other_lawful : Proper (with_lists r ls) → Lawful (with_wish (market_of r) (wish_of (with_lists r ls)))
  other_lawful ok = rw other_market (market_lawful (with_lists r ls) ok)

  agrees_from : (a : ℕ) → get_or ls a [] ≡ get_or r.lists a [] → Agrees (wish_of r) (wish_of (with_lists r ls)) a
  unfolding wish_of with_lists nowhere
  agrees_from a e =
      record {
        len = ap {B = ℕ} (λ (l : List ℕ). length l) (sym e);
        entry = λ j. ap {B = ℕ} (λ (l : List ℕ). get_or l j (length r.places)) (sym e);
        pos = λ p. ap {B = ℕ} (λ (l : List ℕ). rank l p) (sym e);
      }

  -- what the new lists get somebody, by its old list
  rank_other : Proper (with_lists r ls) → (a : ℕ) → rank (get_or r.lists a []) (result (with_lists r ls) a) ≡ (market_of r).wish.pos a (got (with_wish (market_of r) (wish_of (with_lists r ls))) a)
  unfolding market_of wish_of
  rank_other ok a = rw (other_market, result_got (with_lists r ls) ok a)

pub not_all_liars_gain : NotAllLiarsGain
unfolding NotAllLiarsGain market_of
not_all_liars_gain r ls liar ok ok' long same b lb t gain =
    not_all_gain (market_of r) (wish_of (with_lists r ls)) liar (market_lawful r ok) (other_lawful r ls long ok') (λ a e. agrees_from r ls long a (same a e)) b lb t
    (λ a la ta. let g = gain a la ta in let e = rank_other r ls long ok' a in let f = rank_result r ok a in omega arith)

-- one list more or another: of the round with a's list honest, the lists with other in its place
pub truthful : Truthful
unfolding Truthful with_list with_lists market_of wish_of
truthful r a honest other l ok ok' =
    let q = with_list r a honest in
    let ls = set r.lists a other in
    let long : length ls ≡ length q.lists = length-set r.lists a other ∙ sym (length-set r.lists a honest) in
    let same : (c : ℕ) → c ≢ a → get_or ls c [] ≡ get_or q.lists c [] =
    λ c ne. get_or-set_other r.lists a c other [] ne ∙ sym (get_or-set_other r.lists a c honest [] ne) in
    let own = get_or-set_same r.lists a honest [] l in
    let none = no_gain (market_of q) (wish_of (with_lists q ls)) a (market_lawful q ok) (other_lawful q ls long ok') (rw (length-set r.lists a honest) l) (λ c ne. agrees_from q ls long c (same c ne)) in
    let e = rank_other q ls long ok' a in
    let f = rank_result q ok a in
    subst (λ (h : List ℕ). rank h (result q a) ≤ rank h (result (with_list r a other) a)) own (omega arith)

pub more_applicants : MoreApplicants
unfolding MoreApplicants with_list with_lists market_of wish_of
more_applicants r a b l ok ok' la lb ne none =
    let ls = set r.lists b l in
    let long = length-set r.lists b l in
    let more = one_more (market_of r) (wish_of (with_lists r ls)) b (market_lawful r ok) (other_lawful r ls long ok') (rw none refl) (λ c d. agrees_from r ls long c (get_or-set_other r.lists b c l [] d)) a ne in
    let e = rank_result r ok a in
    let f = subst (λ (h : List ℕ). rank h (result (with_lists r ls) a) ≡ final (market_of (with_lists r ls)) a) (get_or-set_other r.lists b a l [] ne) (rank_result (with_lists r ls) ok' a) in
    let g = ap {B = ℕ} (λ (k : Market). final k a) (other_market r ls long) in
    omega arith
