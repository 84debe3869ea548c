-- After any row of asks: the order does not matter, and one more ask adds one more to those who asked.
use Rattle.std.proofs.Common.{◌≡◌, ℕ, min, Bool, true, not, eqb, ltb, List, ◌∷◌, length, sym, refl, ap, ◌∙◌, inl, inr, arith}
use Rattle.std.proofs.lemmas.List.{length-replicate}
use Rattle.std.proofs.lemmas.Bool.{cases_eq}
use Rattle.std.proofs.lemmas.Bool.Decides.{nat_tests}
use Rattle.layout.specs.Tables.{has}
use Rattle.points.specs.Standing.{no_row}
use Rattle.bench.specs.Row.{after_all, empty_bench, taken_in}
use Rattle.bench.specs.Best.{number, above, ToldApart, BestOf}
use Rattle.bench.proofs.Numbers.{has_there, has_same, number_same}
use Rattle.bench.proofs.Laws.{length_after, length_after_all, taken_in_after}
use Rattle.bench.proofs.Holding.{best_of_after_all, best_of_taken_in, best_of_unique}

pub length_empty : (places : ℕ) → length (empty_bench places) ≡ places
unfolding empty_bench
length_empty places = length-replicate places no_row

module _ (v : ℕ → ℕ) (none : v no_row ≡ 0) (places : ℕ) where
  pub length_benches : (xs : List ℕ) → length (after_all v xs (empty_bench places)) ≡ places
  length_benches xs = length_after_all v xs (empty_bench places) ∙ length_empty places

  pub any_order_from : (xs ys : List ℕ) → ToldApart v xs → ((p : ℕ → Bool) → number p xs ≡ number p ys) →
      after_all v xs (empty_bench places) ≡ after_all v ys (empty_bench places)
  any_order_from xs ys apart same =
      let back = has_same ys xs (λ p. sym (same p)) in
      best_of_unique v none xs ys (after_all v xs (empty_bench places)) (after_all v ys (empty_bench places)) apart same
      (length_benches xs ∙ sym (length_benches ys))
      (best_of_after_all v none places xs apart)
      (best_of_after_all v none places ys (λ x y hx hy. apart x y (back x hx) (back y hy)))

  -- x asks once xs have asked: the bench is that of ys, who are x and xs in any order
  pub taken_in_all : (x : ℕ) (xs ys : List ℕ) → ToldApart v (x ∷ xs) → ((p : ℕ → Bool) → number p (x ∷ xs) ≡ number p ys) →
      taken_in v x (after_all v xs (empty_bench places)) ≡ after_all v ys (empty_bench places)
  taken_in_all x xs ys apart same =
      let b : List ℕ = after_all v xs (empty_bench places) in
      let best = best_of_after_all v none places xs (λ y z hy hz. apart y z (has_there y x xs hy) (has_there z x xs hz)) in
      let back = has_same ys (x ∷ xs) (λ p. sym (same p)) in
      best_of_unique v none (x ∷ xs) ys (taken_in v x b) (after_all v ys (empty_bench places)) apart same
      (ap (λ (zs : List ℕ). length zs) (taken_in_after v x b best.sorted) ∙ length_after v x b ∙ length_benches xs ∙ sym (length_benches ys))
      (best_of_taken_in v none x b (taken_in v x b) refl xs apart best)
      (best_of_after_all v none places ys (λ y z hy hz. apart y z (back y hy) (back z hz)))

  pub seats_taken : (xs : List ℕ) → ToldApart v xs → number (λ y. not (eqb y no_row)) (after_all v xs (empty_bench places)) ≡ min places (above v 0 xs)
  seats_taken xs apart =
      let b : List ℕ = after_all v xs (empty_bench places) in
      let best : BestOf v xs b = best_of_after_all v none places xs apart in
      number_same (λ y. not (eqb y no_row)) (λ y. ltb 0 (v y)) b (λ y h. taken best y h)
      ∙ best.many 0
      ∙ ap (λ n. min n (above v 0 xs)) (length_benches xs)
    where
      taken : BestOf v xs (after_all v xs (empty_bench places)) → (y : ℕ) → has y (after_all v xs (empty_bench places)) ≡ true → not (eqb y no_row) ≡ ltb 0 (v y)
      taken best y h =
          elim (cases_eq y no_row) [
            | inl e ↦ (let worthless = ap v e in grind (arith, nat_tests, none))
            | inr row ↦ (let worth = ((best.kept y row).0 h).1 in grind (arith, nat_tests))
          ]
