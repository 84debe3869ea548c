-- Whoever goes behind the asker moves down by one; the asker sits down where somebody stays ahead, or at the first seat.
use Rattle.std.proofs.Common.{◌≡◌, ℕ, List, set, sym, ap, ◌∙◌}
use Rattle.codec.specs.declared.tables.Round.{Round}
use Rattle.codec.specs.Rounds.{tables_of}
use Rattle.points.specs.Standing.{row_worth, no_row}
use Rattle.points.proofs.Lots.{tables_proper, row_worth_no_row}
use Rattle.bench.proofs.Holding.{best_of_taken_in}
use Rattle.bench.proofs.Shift.{taken_in_none, taken_in_moved, answer_none, answer_seated}
use Rattle.bench.proofs.ask.Goals as goal

none : (r : Round) → row_worth (tables_of r) no_row ≡ 0
none r = row_worth_no_row (tables_of r) (tables_proper r)

pub returns : goal.returns
returns c =
    let sat = ap (λ (ys : List ℕ). set ys c.in-Some.seat c.args.row) c.copy_within.ensures.after
    ∙ taken_in_moved (row_worth (tables_of c.args.round.now)) c.args.row c.args.bench.now c.in-Some.seat c.in-Some.ensures.0 c.in-Some.ensures.1 in
    record {
      bench = sat;
      best = best_of_taken_in _ (none c.args.round.now) _ _ _ sat;
      answer = c.seated.ensures ∙ answer_seated (row_worth (tables_of c.args.round.now)) c.args.row c.args.bench.now c.in-Some.ensures.0;
    }

pub returns-in_default : goal.returns-in_default
returns-in_default c =
    let same = sym (taken_in_none (row_worth (tables_of c.args.round.now)) c.args.row c.args.bench.now c.in_default.ensures) in
    record {
      bench = same;
      best = best_of_taken_in _ (none c.args.round.now) _ _ _ same;
      answer = answer_none (row_worth (tables_of c.args.round.now)) c.args.row c.args.bench.now c.in_default.ensures;
    }
