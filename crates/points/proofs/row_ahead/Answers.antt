-- Different points settle the order of the worths; equal points leave it to the lots.
use Rattle.std.proofs.Common.{◌≡◌, false, eqb, arith}
use Rattle.std.proofs.lemmas.Bool.Decides.{nat_tests}
use Rattle.layout.specs.Tables.{Tables, Proper}
use Rattle.codec.specs.Rounds.{tables_of}
use Rattle.points.specs.Standing.{row_worth}
use Rattle.points.proofs.Lots.{tables_proper, lot_small, more_points}
use Rattle.points.proofs.row_ahead.Goals as goal

pub returns-then-ne : goal.returns-then-ne
unfolding row_worth
returns-then-ne c =
    let t : Tables = tables_of c.args.round.now in
    let good : Proper t = tables_proper c.args.round.now in
    let apart : eqb c.points_of-points.result.0 c.points_of-other_points.result.0 ≡ false = grind (arith, nat_tests) in
    let settled = more_points _ _ _ _ (lot_small t good c.args.row) (lot_small t good c.args.other) apart in
    cc

pub returns : goal.returns
unfolding row_worth
returns c = cc
