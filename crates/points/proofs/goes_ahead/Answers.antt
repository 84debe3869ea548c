-- The order of points and lots as pairs, the lots the other way round, is that of the worths.
use Rattle.std.proofs.Common.{◌≡◌, ℕ, ◌<◌, ltb, Some, ◌∙◌, arith, rules}
use Rattle.std.specs.Ordering.{nat_cmp, is_gt, is_some_and, partial_ordering_then}
use Rattle.std.proofs.lemmas.Bool.Decides.{nat_tests}
use Rattle.round.specs.ByPoints.{worth_of}
use Rattle.points.proofs.goes_ahead.Goals as goal

pairs : (p q l k : ℕ) → l < 65536 → k < 65536 → 0 < p →
    is_some_and is_gt (partial_ordering_then (Some (nat_cmp p q)) (Some (nat_cmp k l))) ≡ ltb (worth_of q k) (worth_of p l)
unfolding worth_of
pairs p q l k hl hk some = grind (arith, nat_tests)

pub returns-then-gt : goal.returns-then-gt
returns-then-gt c = c.gt-then-gt.ensures ∙ pairs c.args.points.0 c.args.other.0 _ _ (search rules) (search rules) (grind (arith, nat_tests))

pub returns-else-gt : goal.returns-else-gt
unfolding worth_of
returns-else-gt c = grind (arith, nat_tests)
