-- One record more, right behind those before it.
use Rattle.std.proofs.Common.{refl, arith}
use Rattle.layout.specs.Slices.{flat}
use Rattle.layout.specs.Tables.{applicants}
use Rattle.layout.specs.Encode.{record_bytes}
use Rattle.layout.proofs.OfProper.{length_list_at}
use Rattle.codec.specs.Rounds.{tables_of}
use Rattle.codec.proofs.Encodes.{list_within, length_records, over_flat_more, over_flat_end}
use Rattle.codec.proofs.Rounds.{proper_round}
use Rattle.codec.proofs.output.write_records.Goals as goal

pub loop-a-init : goal.loop-a-init
unfolding flat
loop-a-init c = refl

pub slice_bounds-write_record-end : goal.slice_bounds-write_record-end
slice_bounds-write_record-end c =
    let t = tables_of c.args.round.now in
    let p = proper_round c.args.round.now in
    omega (arith, list_within t p c.loop-a.a (omega arith))

pub loop-a-preserved : goal.loop-a-preserved
loop-a-preserved c =
    let t = tables_of c.args.round.now in
    let p = proper_round c.args.round.now in
    over_flat_more (record_bytes t) c.loop-a.a _ _ c.loop-a.out _ c.args.out.now (length_records t p c.loop-a.a (omega arith)) c.write_record.ensures (omega (arith, length_list_at t p c.loop-a.a (omega arith), p.started.2 c.loop-a.a (omega arith))) c.loop-a.invariant

pub returns : goal.returns
returns c =
    let t = tables_of c.args.round.now in
    over_flat_end (record_bytes t) c.loop-a.a (applicants t) _ c.args.out.now (omega arith) c.loop-a.invariant (omega (arith, length_records t (proper_round c.args.round.now) (applicants t) (omega arith), (proper_round c.args.round.now).started.4))
