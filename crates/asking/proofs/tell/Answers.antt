-- Each turn of the loop is a step of Tells.
use Rattle.std.proofs.Common.{rules, ◌≡◌, ℕ, ◌++◌, drop, count_by, ap, ap₂, ◌∙◌, arith}
use Rattle.std.proofs.iter.runs.Made.{chains}
use Rattle.layout.specs.Tables.{applicants}
use Rattle.layout.proofs.Flats.{length_table}
use Rattle.points.proofs.Lots.{tables_proper}
use Rattle.codec.specs.Rounds.{tables_of}
use Rattle.asking.specs.Asking.{told_from}
use Rattle.asking.proofs.Tells.{is_place, getD_untold, told_more, told_place, told_none, told_all, placed_counted}
use Rattle.asking.proofs.tell.Goals as goal
use Rattle.asking.proofs.tell.Goals.{then-from-len, else-from-len}

pub overflow_sub-at : goal.overflow_sub-at
overflow_sub-at c =
    let same = getD_untold (tables_of c.args.round.now) c.args.results.now c.loop-a.front _ c.loop-a.a (omega (arith, c.requires.room)) c.loop-a.invariant (omega arith) in
    omega (arith, same, c.requires.begun c.loop-a.a (omega arith))

pub loop-a-preserved : goal.loop-a-preserved
loop-a-preserved c =
    let room = c.requires.room in
    let y_is : c.if-from-len.told ≡ told_from (tables_of c.args.round.now) c.args.results.now c.loop-a.a =
    elim c.if-from-len.branch [
      | then-from-len w ↦
          w.told-is ∙ told_place (tables_of c.args.round.now) c.args.results.now c.loop-a.front _ c.loop-a.a (omega (arith, room)) c.loop-a.invariant (omega arith) (omega (arith, c.from.ensures, c.list_len-len.ensures, w.if-from-len.true))
      | else-from-len w ↦
          w.told-is ∙ told_none (tables_of c.args.round.now) c.args.results.now c.loop-a.front _ c.loop-a.a (omega (arith, room)) c.loop-a.invariant (omega arith) (omega (arith, c.from.ensures, c.list_len-len.ensures, w.if-from-len.false))
    ] in
    told_more (tables_of c.args.round.now) c.args.results.now c.loop-a.front _ c.loop-a.a (omega (arith, room)) c.loop-a.invariant (omega arith) _ y_is

pub returns : goal.returns
returns c =
    let at_end : c.loop-a.a ≡ applicants (tables_of c.args.round.now) = omega (arith, c.requires.room) in
    let told = told_all (tables_of c.args.round.now) c.args.results.now (tables_proper c.args.round.now) c.loop-a.front _ _ at_end c.loop-a.invariant (omega arith) in
    let many : c.count.result ≡ count_by is_place c.loop-a.front = search (rules, chains) in
    record {
      results =
          ap₂ ◌++◌ told
          (ap (λ (k : ℕ). drop k c.args.results.now) (omega (arith, length_table (told_from (tables_of c.args.round.now) c.args.results.now) (applicants (tables_of c.args.round.now)))));
      placed = many ∙ placed_counted (tables_of c.args.round.now) c.args.results.now (tables_proper c.args.round.now) c.loop-a.front _ _ at_end c.loop-a.invariant (omega arith);
    }
