use Rattle.std.proofs.Common.{sym, ◌∙◌}
use Rattle.codec.specs.Rounds.{tables_of}
use Rattle.office.specs.Settling.{tables_settled}
use Rattle.office.proofs.Told.{told_none, line_placed}
use Rattle.office.proofs.printing.push_applicant.Goals as goal

pub returns-in_default : goal.returns-in_default
returns-in_default c =
    let line = told_none (tables_settled c.args.settled.now) c.args.settled.now.held.proper c.args.a c.requires (sym c.position.ensures ∙ c.in_default.is) in
    rw (← line) c.push_none.ensures

pub bounds-round-round : goal.bounds-round-round
bounds-round-round c = rw c.from-position.ensures (
    (line_placed (tables_settled c.args.settled.now) (tables_of c.round-round.result) c.args.settled.now.held.proper c.round-round.ensures c.args.a c.requires
    c.in-Some.position (sym c.position.ensures ∙ c.in-Some.is)).1)

pub returns : goal.returns
returns c =
    let line = (line_placed (tables_settled c.args.settled.now) (tables_of c.round-round.result) c.args.settled.now.held.proper c.round-round.ensures c.args.a c.requires
    c.in-Some.position (sym c.position.ensures ∙ c.in-Some.is)).0 in
    rw (← line) (rw c.from-position.ensures at c.push_placed.ensures)
