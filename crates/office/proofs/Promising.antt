-- All that is promised holds of proper tables.
use Rattle.std.proofs.Common.{◌≡◌, ℕ, ◌≤◌, List, Ok, sym, ◌∙◌, subst, arith}
use mathlib.Core.Path.{fun_ext}
use Rattle.layout.specs.Bytes.{decode}
use Rattle.layout.specs.Encode.{BytesOnly}
use Rattle.layout.proofs.RoundTrip.{all_as_written}
use Rattle.layout.specs.Tables.{Tables, Proper, list_at}
use Rattle.round.specs.Places.{nowhere, result}
use Rattle.round.specs.Promise.{Stable, rank, given, BestStable as GivenBest, SameLeft as GivenLeft}
use Rattle.round.specs.Market.{asked, final, got}
use Rattle.round.proofs.Bridge.{result_got}
use Rattle.round.proofs.Promised as promised
use Rattle.round.proofs.Theorems as theorems
use Rattle.points.specs.Standing.{round_of, market}
use Rattle.asking.specs.Ended.{bench_at}
use Rattle.points.proofs.Theory.{round_applicants, round_workshops, round_list}
use Rattle.asking.proofs.Proper.{round_proper, lawful}
use Rattle.asking.proofs.Sums.{entries_of_market}
use Rattle.asking.proofs.Fairness.{fair}
use Rattle.asking.proofs.Benched.{best_of_bench}
use Rattle.cuts.proofs.Defined.{cuts_defined}
use Rattle.cuts.proofs.Reaching.{told_by_cuts}
use Rattle.letters.proofs.Told.{accepted_own}
use Rattle.office.specs.Outcome.{letter_of}
use Rattle.office.specs.Promises.{BestKept, Ends, AnyOrder, BestStable, SameLeft, LettersRight, Promised, OfAllRead}

module _ (t : Tables) (proper : Proper t) where
  pub best_kept : BestKept t
  unfolding bench_at
  best_kept w l = best_of_bench t proper w l (asked (market t).wish (final (market t)) w)

  pub any_order : AnyOrder t
  any_order s reached closed = theorems.same_end (market t) (lawful t proper) s reached closed

  -- the result of the round's definition is what everybody got
  pub got_result : ◌≡◌ {A = ℕ → ℕ} (result (round_of t)) (got (market t))
  unfolding market
  got_result = fun_ext (result_got (round_of t) (round_proper t proper))

  pub best_stable : BestStable t
  unfolding GivenBest
  best_stable =
      let given = promised.best_stable (round_of t) (round_proper t proper) in
      let n = round_applicants t in (
        subst (λ (m : ℕ → ℕ). Stable (round_of t) m) got_result given.0,
        λ m st a l.
            let least = given.1 m st a (omega arith) in
            let dear = subst (λ (x : List ℕ). rank x (result (round_of t) a) ≤ rank x (m a)) (round_list t a l) least in
            subst (λ (g : ℕ → ℕ). rank (list_at t a) (g a) ≤ rank (list_at t a) (m a)) got_result dear,
      )

  pub same_left : SameLeft t
  unfolding GivenLeft nowhere
  same_left m n sm sn =
      let left = promised.same_left (round_of t) m n (round_proper t proper) sm sn in
      let many = round_applicants t in
      let all = round_workshops t in (
        λ a l e. left.0 a (omega arith) (e ∙ sym all) ∙ all,
        λ w l. subst (λ (k : ℕ). given m w k ≡ given n w k) many (left.1 w (omega arith)),
      )

  pub ends : Ends t
  ends = let k = theorems.end_closed (market t) (lawful t proper) in (k.0, k.1, let few = theorems.few_asks (market t) in let all = entries_of_market t proper in omega arith)

  pub letters_right : LettersRight t
  unfolding letter_of
  letters_right a l = accepted_own t proper a l

  pub promised_of_proper : Promised t
  promised_of_proper =
      record {
        best_kept = best_kept;
        ends = ends;
        any_order = any_order;
        best_stable = best_stable;
        same_left = same_left;
        first_reached = (cuts_defined t proper, told_by_cuts t proper);
        letters_right = letters_right;
        fair = fair t proper;
      }

-- so it holds of whatever is read from bytes
pub proper_read : (b : List ℕ) (t : Tables) → BytesOnly b → decode b ≡ Ok t → Proper t
proper_read b t small read = ((all_as_written b small).sound t read).0

pub promised_read : OfAllRead Promised
promised_read b t small read = promised_of_proper t (proper_read b t small read)
