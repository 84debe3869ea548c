use Rattle.std.proofs.Common.{◌≡◌, ◌-◌, length}
use Rattle.codec.specs.Rounds.{tables_of}
use Rattle.asking.specs.Ended.{SameSlices}
use Rattle.asking.specs.Asking.{Resting, Waiting}
use Rattle.asking.proofs.ask_all.Given as goal

abbrev pub invariant-loop-asks : goal.invariant-loop-asks
invariant-loop-asks l =
    Waiting (tables_of l.round) l.desk.results.now l.desk.benches.now l.fn.desk.results.now l.fn.desk.benches.now l.a l.asker l.asks
    × (l.desk.rows.now ≡ l.fn.desk.rows.now)
    × SameSlices l.fn.desk l.desk

abbrev pub decreases-loop-asks : goal.decreases-loop-asks
decreases-loop-asks l = length (tables_of l.round).entries - l.asks

abbrev pub invariant-applicants : goal.invariant-applicants
invariant-applicants l =
    Resting (tables_of l.round) l.desk.results.now l.desk.benches.now l.fn.desk.results.now l.fn.desk.benches.now l.a l.asks
    × (l.desk.rows.now ≡ l.fn.desk.rows.now)
    × SameSlices l.fn.desk l.desk
