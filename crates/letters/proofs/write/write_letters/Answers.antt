-- A round has few entries.
use Rattle.std.proofs.Common.{arith}
use Rattle.codec.specs.Rounds.{tables_of}
use Rattle.points.proofs.Lots.{tables_proper}
use Rattle.asking.proofs.Sums.{few_entries}
use Rattle.letters.proofs.write.write_letters.Goals as goal

pub overflow_add-len : goal.overflow_add-len
overflow_add-len c =
    let few = few_entries (tables_of c.args.round.now) (tables_proper c.args.round.now) in
    omega (arith, c.args.round.now.proper.limited.0)
