use Rattle.std.proofs.Common.{◌∙◌}
use Rattle.codec.specs.Rounds.{tables_of}
use Rattle.office.specs.Settling.{tables_settled}
use Rattle.office.proofs.Laid.{letter_in_slice, letter_end}
use Rattle.office.proofs.settled.Settled.letter.Goals as goal

pub slice_bounds-result-end-2 : goal.slice_bounds-result-end-2
slice_bounds-result-end-2 c =
    letter_end (tables_settled c.args.self.now) (tables_of c.view-round.result) c.args.self.now.held.proper c.view-round.ensures
    c.as_slice.result.now (c.as_slice.ensures.value ∙ c.args.self.now.written) c.args.applicant c.applicants.result c.applicants.ensures c.if-applicant-applicants.false

pub returns : goal.returns
returns c =
    letter_in_slice (tables_settled c.args.self.now) (tables_of c.view-round.result) c.args.self.now.held.proper c.view-round.ensures
    c.as_slice.result.now (c.as_slice.ensures.value ∙ c.args.self.now.written) c.args.applicant c.applicants.result c.applicants.ensures c.if-applicant-applicants.false
