-- One row more, right behind those before it.
use Rattle.std.proofs.Common.{ℕ, ◌+◌, ◌∷◌, ◌++◌, get_or, refl, ap, ◌∙◌, arith}
use Rattle.layout.specs.Slices.{flat}
use Rattle.layout.specs.Encode.{two_bytes, row_bytes}
use Rattle.layout.proofs.OfProper.{row_starts_within}
use Rattle.codec.specs.Rounds.{tables_of}
use Rattle.codec.proofs.Encodes.{length_rows, length_sheet, row_in_sheet, over_flat_more, over_flat_end}
use Rattle.codec.proofs.Fills.{part_byte}
use Rattle.codec.proofs.Puts.{length_part}
use Rattle.codec.proofs.Rounds.{proper_round}
use Rattle.codec.proofs.output.write_sheet.Goals as goal

pub loop-k-init : goal.loop-k-init
unfolding flat
loop-k-init c = refl

pub slice_bounds-applicant-items-end : goal.slice_bounds-applicant-items-end
slice_bounds-applicant-items-end c =
    let t = tables_of c.args.round.now in
    omega (arith, row_starts_within t (proper_round c.args.round.now) (c.args.w + 1) (omega arith))

pub bounds-round-from : goal.bounds-round-from
bounds-round-from c =
    let t = tables_of c.args.round.now in
    let p = proper_round c.args.round.now in
    let within = row_starts_within t p (c.args.w + 1) (omega arith) in
    let long = length_part (get_or t.row_starts c.args.w 0) (get_or t.row_starts (c.args.w + 1) 0) t.row_applicants (omega arith) in
    omega (arith, row_in_sheet t p c.args.w c.loop-k.k c.requires.one (omega arith), c.args.round.now.proper.rowed.0)

pub slice_bounds-write_row-end : goal.slice_bounds-write_row-end
slice_bounds-write_row-end c =
    let t = tables_of c.args.round.now in
    let p = proper_round c.args.round.now in
    let within = row_starts_within t p (c.args.w + 1) (omega arith) in
    let long = length_part (get_or t.row_starts c.args.w 0) (get_or t.row_starts (c.args.w + 1) 0) t.row_applicants (omega arith) in
    omega (arith, length_sheet t p c.args.w)

pub loop-k-preserved : goal.loop-k-preserved
loop-k-preserved c =
    let t = tables_of c.args.round.now in
    let from_row : ℕ = get_or c.args.round.now.row_starts.now c.args.w 0 in
    over_flat_more (λ (k : ℕ). row_bytes t c.args.w (from_row + k)) c.loop-k.k _ _ c.loop-k.out _ c.args.out.now (length_rows t (proper_round c.args.round.now) c.args.w from_row c.loop-k.k)
    (c.write_row.ensures ∙ ap (λ (x : ℕ). c.args.w ∷ (two_bytes x ++ two_bytes (get_or t.row_points (from_row + c.loop-k.k) 0))) (part_byte t.row_applicants from_row _ c.loop-k.k (omega arith)))
    (omega arith) c.loop-k.invariant

pub returns : goal.returns
returns c =
    let t = tables_of c.args.round.now in
    let p = proper_round c.args.round.now in
    let within = row_starts_within t p (c.args.w + 1) (omega arith) in
    let long = length_part (get_or t.row_starts c.args.w 0) (get_or t.row_starts (c.args.w + 1) 0) t.row_applicants (omega arith) in
    let from_row : ℕ = get_or c.args.round.now.row_starts.now c.args.w 0 in
    over_flat_end (λ (k : ℕ). row_bytes t c.args.w (from_row + k)) c.loop-k.k _ _ c.args.out.now (omega arith) c.loop-k.invariant c.requires.long
