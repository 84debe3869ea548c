-- One sum more, and the last one after the loop.
use Rattle.std.proofs.Common.{ℕ, ◌+◌, sym, refl, ◌∙◌, ap₂, arith}
use Rattle.layout.specs.Bytes.{places_from, seats_before}
use Rattle.layout.proofs.Offsets.{seats_before_more}
use Rattle.codec.proofs.Fills.{part_byte}
use Rattle.codec.proofs.Puts.{over_table_more, over_table_end}
use Rattle.codec.proofs.fill.fill_seats.Goals as goal

pub loop-w-init : goal.loop-w-init
unfolding seats_before
loop-w-init c = (refl, refl, omega arith)

pub loop-w-preserved : goal.loop-w-preserved
loop-w-preserved c =
    let b = c.args.bytes.now in
    let place = c.from-sum.ensures ∙ part_byte b places_from (places_from + c.args.workshops) c.loop-w.w (omega arith) in (
      over_table_more (seats_before b) c.loop-w.w _ _ _ c.loop-w.invariant.0 c.loop-w.invariant.1 (omega arith),
      ap₂ (λ (x y : ℕ). x + y) c.loop-w.invariant.1 place ∙ sym (seats_before_more b c.loop-w.w),
      omega (arith, place, c.type_inv.bytes (places_from + c.loop-w.w)),
    )

pub returns : goal.returns
returns c =
    over_table_end (seats_before c.args.bytes.now) c.loop-w.w c.args.workshops _ _ _ (omega arith) c.loop-w.invariant.0 c.loop-w.invariant.1 (omega arith)
