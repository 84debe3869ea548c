use Rattle.std.proofs.Common.{vec_items, ◌∙◌, arith}
use Rattle.codec.specs.Rounds.{tables_of}
use Rattle.office.specs.Settling.{tables_settled}
use Rattle.office.proofs.Laid.{cut_in_slice, bench_within, cut_of_none}
use Rattle.office.proofs.settled.Settled.cut.Goals as goal

pub returns-then-workshop-workshops : goal.returns-then-workshop-workshops
returns-then-workshop-workshops c =
    cut_of_none (tables_settled c.args.self.now) (tables_of c.view-round.result) c.args.self.now.held.proper c.view-round.ensures
    (vec_items c.args.self.now.benches) c.args.self.now.seated c.args.workshop c.workshops.result c.workshops.ensures c.if-workshop-workshops.true

pub slice_bounds-cut_of-end : goal.slice_bounds-cut_of-end
slice_bounds-cut_of-end c =
    let within =
    bench_within (tables_settled c.args.self.now) (tables_of c.view-round.result) c.args.self.now.held.proper c.view-round.ensures
    c.as_slice.result.now (c.as_slice.ensures.value ∙ c.args.self.now.seated) c.args.workshop c.workshops.result c.workshops.ensures c.if-workshop-workshops.false
    in
    omega (arith, within.0, within.1)

pub returns : goal.returns
returns c =
    c.cut_of.ensures
    ∙ cut_in_slice (tables_settled c.args.self.now) (tables_of c.view-round.result) c.args.self.now.held.proper c.view-round.ensures
    c.as_slice.result.now (c.as_slice.ensures.value ∙ c.args.self.now.seated) c.args.workshop c.workshops.result c.workshops.ensures c.if-workshop-workshops.false
