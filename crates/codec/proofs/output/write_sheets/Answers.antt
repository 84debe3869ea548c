-- One sheet more, right behind those before it.
use Rattle.std.proofs.Common.{◌+◌, refl, ◌∙◌, arith}
use Rattle.layout.specs.Slices.{flat}
use Rattle.layout.specs.Tables.{workshops}
use Rattle.layout.specs.Encode.{sheet_bytes}
use Rattle.layout.proofs.OfProper.{row_starts_within}
use Rattle.codec.specs.Rounds.{tables_of}
use Rattle.codec.proofs.Encodes.{length_sheet, length_sheets, over_flat_more, over_flat_end}
use Rattle.codec.proofs.Puts.{length_part}
use Rattle.codec.proofs.Rounds.{proper_round}
use Rattle.codec.proofs.output.write_sheets.Goals as goal

pub loop-w-init : goal.loop-w-init
unfolding flat
loop-w-init c = refl

pub slice_bounds-write_sheet-end : goal.slice_bounds-write_sheet-end
slice_bounds-write_sheet-end c =
    let t = tables_of c.args.round.now in
    let p = proper_round c.args.round.now in
    omega (arith, row_starts_within t p (c.loop-w.w + 1) (omega arith), p.sheeted.2 c.loop-w.w (omega arith))

pub write_sheet-requires-clause-long : goal.write_sheet-requires-clause-long
write_sheet-requires-clause-long c =
    let t = tables_of c.args.round.now in
    let p = proper_round c.args.round.now in
    length_part _ _ c.loop-w.out (omega (arith, row_starts_within t p (c.loop-w.w + 1) (omega arith))) ∙ omega (arith, length_sheet t p c.loop-w.w)

pub loop-w-preserved : goal.loop-w-preserved
loop-w-preserved c =
    let t = tables_of c.args.round.now in
    let p = proper_round c.args.round.now in
    over_flat_more (sheet_bytes t) c.loop-w.w _ _ c.loop-w.out _ c.args.out.now (length_sheets t p c.loop-w.w (omega arith)) c.write_sheet.ensures (omega (arith, length_sheet t p c.loop-w.w)) c.loop-w.invariant

pub returns : goal.returns
returns c =
    let t = tables_of c.args.round.now in
    over_flat_end (sheet_bytes t) c.loop-w.w (workshops t) _ c.args.out.now (omega arith) c.loop-w.invariant (omega (arith, length_sheets t (proper_round c.args.round.now) (workshops t) (omega arith), (proper_round c.args.round.now).sheeted.3))
