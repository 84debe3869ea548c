-- Each turn of the two loops is one of the steps of Loops.
use Rattle.std.proofs.Common.{refl, ◌∙◌, arith}
use Rattle.points.proofs.Lots.{tables_proper}
use Rattle.asking.proofs.Sums.{few_entries}
use Rattle.asking.proofs.Loops.{same_since, resting_begins, waiting_begins, waiting_ends, waiting_settles, waiting_on, asks_left, asker_few}
use Rattle.asking.proofs.ask_all.Goals as goal

pub applicants-init : goal.applicants-init
applicants-init c =
    (resting_begins _ (tables_proper c.args.round.now) _ _ c.requires.asking c.requires.fresh, refl, record { rows = refl; results = refl; benches = refl })

pub loop-asks-init : goal.loop-asks-init
loop-asks-init c =
    let (rest, rows, same) = c.applicants.invariant in
    (waiting_begins _ (tables_proper c.args.round.now) _ _ _ _ _ _ c.applicants-test.true rest, rows, same)

pub overflow_add-asks : goal.overflow_add-asks
overflow_add-asks c =
    let few = few_entries _ (tables_proper c.args.round.now) in
    let left = asks_left _ (tables_proper c.args.round.now) _ _ _ _ _ _ _ c.loop-asks.invariant.0 (omega (arith, c.from.ensures, c.list_len.ensures, c.loop-asks-test.true)) in
    omega arith

pub applicants-preserved-in_default : goal.applicants-preserved-in_default
applicants-preserved-in_default c =
    let (wait, rows, same) = c.loop-asks.invariant in (
      waiting_settles _ (tables_proper c.args.round.now) _ _ _ _ _ _ _ wait (omega (arith, c.from.ensures, c.list_len.ensures, c.loop-asks-test.true)) _ _
          c.in_default.ensures.results c.in_default.ensures.behind c.in_default.ensures.after,
      c.in_default.ensures.rows ∙ rows,
      same_since _ _ _ same c.in_default.ensures.same,
    )

pub loop-asks-smaller : goal.loop-asks-smaller
loop-asks-smaller c =
    let left = asks_left _ (tables_proper c.args.round.now) _ _ _ _ _ _ _ c.loop-asks.invariant.0 (omega (arith, c.from.ensures, c.list_len.ensures, c.loop-asks-test.true)) in
    omega arith

pub loop-asks-preserved : goal.loop-asks-preserved
loop-asks-preserved c =
    let (wait, rows, same) = c.loop-asks.invariant in (
      waiting_on _ (tables_proper c.args.round.now) _ _ _ _ _ _ _ wait (omega (arith, c.from.ensures, c.list_len.ensures, c.loop-asks-test.true)) _ _
          c.in-Some.ensures.results c.in-Some.ensures.behind c.in-Some.other c.in-Some.ensures.after,
      c.in-Some.ensures.rows ∙ rows,
      same_since _ _ _ same c.in-Some.ensures.same,
    )

pub overflow_add-desk : goal.overflow_add-desk
overflow_add-desk c = omega (arith, asker_few _ (tables_proper c.args.round.now) _ _ _ _ _ _ _ c.loop-asks.invariant.0)

pub applicants-preserved : goal.applicants-preserved
applicants-preserved c =
    let (wait, rows, same) = c.loop-asks.invariant in (
      waiting_ends _ (tables_proper c.args.round.now) _ _ _ _ _ _ _ wait (omega (arith, c.from.ensures, c.list_len.ensures, c.loop-asks-test.false)),
      rows,
      record { rows = same.rows; results = same.results; benches = same.benches },
    )
