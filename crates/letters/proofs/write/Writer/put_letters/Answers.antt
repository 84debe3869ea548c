-- One letter more is laid behind those that lie there.
use Rattle.std.proofs.Common.{ℕ, List, sym, refl, ap, ◌∙◌, arith}
use Rattle.layout.specs.Slices.{flat, over}
use Rattle.layout.proofs.Flats.{flat_more}
use Rattle.codec.specs.Rounds.{tables_of}
use Rattle.letters.specs.Written.{letter_bytes}
use Rattle.letters.proofs.Writing.{length_rest, over_part, letter_at, length_letters, letter_within}
use Rattle.letters.proofs.write.Writer.put_letters.Goals as goal

pub loop-a-init : goal.loop-a-init
unfolding flat
loop-a-init c = refl

pub slice_bounds-put_letter-count : goal.slice_bounds-put_letter-count
slice_bounds-put_letter-count c =
    let within = letter_within (tables_of c.args.self.now.round.now) c.args.self.now.round.now.proper.started c.args.self.now.left.rows.now c.args.self.now.left.results.now c.args.self.now.left.benches.now c.loop-a.a c.loop-a-test.true in
    omega (arith, c.requires)

pub slice_bounds-put_letter-start : goal.slice_bounds-put_letter-start
slice_bounds-put_letter-start c = slice_bounds-put_letter-count c

pub put_letter-requires : goal.put_letter-requires
put_letter-requires c =
    let t = tables_of c.args.self.now.round.now in
    let a = c.loop-a.a in
    let within = letter_within t c.args.self.now.round.now.proper.started c.args.self.now.left.rows.now c.args.self.now.left.results.now c.args.self.now.left.benches.now a c.loop-a-test.true in
    record {
      applicant = c.loop-a-test.true;
      room = omega (arith, length_rest c.loop-a.part (letter_at t a), c.requires);
    }

pub loop-a-preserved : goal.loop-a-preserved
loop-a-preserved c =
    let t = tables_of c.args.self.now.round.now in
    let a = c.loop-a.a in
    let f = letter_bytes t c.args.self.now.left.rows.now c.args.self.now.left.results.now c.args.self.now.left.benches.now in
    let before = length_letters t c.args.self.now.round.now.proper.started c.args.self.now.left.rows.now c.args.self.now.left.results.now c.args.self.now.left.benches.now a (omega arith) in
    over_part (flat f a) (f a) c.args.part.now c.loop-a.part c.put_letter.new.part (letter_at t a) c.loop-a.invariant before c.put_letter.ensures
    ∙ ap (λ (xs : List ℕ). over xs c.args.part.now) (sym (flat_more f a))
