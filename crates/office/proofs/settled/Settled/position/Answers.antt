use Rattle.std.proofs.Common.{◌≡◌, ◌==◌, get_or, false, arith}
use Rattle.std.proofs.lemmas.Bool.Decides.{nat_tests}
use Rattle.office.specs.Settling.{tables_settled}
use Rattle.office.proofs.Told.{told_at, length_told}
use Rattle.office.proofs.settled.Settled.position.Goals as goal

pub bounds-results-applicant : goal.bounds-results-applicant
bounds-results-applicant c = length_told (tables_settled c.args.self.now) c.results.result.now c.results.ensures c.args.applicant c.requires

pub returns-in-255 : goal.returns-in-255
returns-in-255 c =
    let told = told_at (tables_settled c.args.self.now) c.results.result.now c.results.ensures c.args.applicant c.requires in
    rw (← told, c.in-255.is)

pub returns-in_default : goal.returns-in_default
returns-in_default c =
    let told = told_at (tables_settled c.args.self.now) c.results.result.now c.results.ensures c.args.applicant c.requires in
    let placed : (get_or c.results.result.now c.args.applicant 0 == 255) ≡ false = grind (arith, nat_tests) in
    rw (← told, placed)
