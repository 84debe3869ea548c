-- The worked rounds come out as their table says, by computing.
use Rattle.std.proofs.Common.{refl}
use Rattle.round.specs.Places.{point, nowhere, asked, ahead, refused, on, step, steps, total, result}
use Rattle.round.specs.Promise.{given}
use Rattle.round.specs.Market.{sum}
use Rattle.round.specs.ByPoints.{worth_of}
use Rattle.round.specs.Cuts.{lowest, cut_at, points_in, lot_in, told_at}
use Rattle.round.specs.Office.{asks_from, asks_of}
use Rattle.round.specs.Rounds.{outcome_of, worths, round_of, round_a, round_a1, round_b, round_c, round_d, round_e, round_f, worked, WorkedOut}

pub worked_out : WorkedOut
unfolding WorkedOut worked outcome_of worths round_of round_a round_a1 round_b round_c round_d round_e round_f worth_of asks_of asks_from sum told_at points_in lot_in cut_at lowest given result total steps step on refused ahead asked nowhere point
worked_out = refl
