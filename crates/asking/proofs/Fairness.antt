-- What a run promises, from the theorems on rounds and markets.
use Rattle.std.proofs.Common.{◌≡◌, ℕ, ◌<◌, ◌≤◌, List, [], set, sym, ap, ◌∙◌, subst, arith}
use mathlib.Core.Path.{fun_ext}
use Rattle.std.proofs.lemmas.List.{set-get_or}
use Rattle.layout.specs.Tables.{Tables, Proper, applicants, list_at}
use Rattle.round.specs.Places as places
use Rattle.round.specs.Promise.{Stable, Truthful, BestStable, rank, with_list}
use Rattle.round.specs.Promise as promise
use Rattle.round.specs.Market.{got}
use Rattle.round.proofs.Bridge.{result_got}
use Rattle.round.proofs.Promised.{best_stable, truthful}
use Rattle.round.proofs.Theorems.{few_asks}
use Rattle.points.specs.Standing.{round_of, market}
use Rattle.asking.specs.Ended.{Fair}
use Rattle.points.proofs.Theory.{round_applicants, round_list, round_proper}
use Rattle.asking.proofs.Sums.{entries_of_market}

module _ (t : Tables) (ok : Proper t) where
  got_is : (a : ℕ) → places.result (round_of t) a ≡ got (market t) a
  unfolding market
  got_is = result_got (round_of t) (round_proper t ok)

  -- the list that b sent in, sent in again
  same_list : (b : ℕ) → b < applicants t → with_list (round_of t) b (list_at t b) ≡ round_of t
  unfolding with_list
  same_list b l =
      ap {B = places.Round} (λ (ls : List (List ℕ)). record { lists = ls; places = (round_of t).places; points = (round_of t).points })
      (ap (set (round_of t).lists b) (sym (round_list t b l)) ∙ set-get_or (round_of t).lists b [])

  pub fair : Fair t
  unfolding BestStable Truthful
  fair =
      record {
        stable = subst (λ (m : ℕ → ℕ). Stable (round_of t) m) (fun_ext got_is) (best_stable (round_of t) (round_proper t ok)).0;
        dearest =
            λ m st a l.
            let n = round_applicants t in
            let best = (best_stable (round_of t) (round_proper t ok)).1 m st a (omega arith) in
            rw (round_list t a l, got_is a) at best;
        truthful =
            λ b l h ok'.
            let n = round_applicants t in
            let mine = subst (λ (r : places.Round). promise.Proper r) (sym (same_list b h)) (round_proper t ok) in
            let less = truthful (round_of t) b (list_at t b) l (omega arith) mine ok' in
            let less' : rank (list_at t b) (places.result (round_of t) b) ≤ rank (list_at t b) (places.result (with_list (round_of t) b l) b) =
            subst (λ (r : places.Round). rank (list_at t b) (places.result r b) ≤ rank (list_at t b) (places.result (with_list (round_of t) b l) b)) (same_list b h) less in
            rw (got_is b, result_got (with_list (round_of t) b l) ok' b) at less';
        few_asks = let few = few_asks (market t) in let all = entries_of_market t ok in omega arith;
        as_defined = λ a _. sym (got_is a);
      }
