-- A window is the two ends of a workshop's seats, which lie within all seats, and one cut more is told.
use Rattle.std.proofs.Common.{◌≡◌, ℕ, ◌+◌, ◌-◌, take, drop, get_or, Some, refl, ap, ◌∙◌, arith}
use Rattle.std.proofs.lemmas.List.{length-set}
use Rattle.std.proofs.lemmas.Iterator.{window_more}
use Rattle.layout.specs.Tables.{workshops}
use Rattle.layout.proofs.Offsets.{rises}
use Rattle.codec.specs.Rounds.{tables_of}
use Rattle.cuts.specs.Cuts.{cut_of_bench}
use Rattle.cuts.specs.declared.Cut.TheVariants.{Open}
use Rattle.letters.specs.Written.{bench_in}
use Rattle.letters.proofs.Writing.{filled_more}
use Rattle.letters.proofs.write.all_cuts.Goals as goal

pub slice_bounds-cut_of-end : goal.slice_bounds-cut_of-end
slice_bounds-cut_of-end c =
    let round = c.args.round.now in
    let seats = round.seats.now in
    let w = c.in-Some.w in
    let h = c.in-Some.ensures.steps in
    let i = c.loop-w.invariant in
    let pair = i.pair in
    let more = window_more seats c.loop-w.w-iterator.iter c.next.new.self.iter (Some c.in-Some.ends) c.in-Some.ends refl h.0 (omega arith) (omega arith) i.rest in
    let from : get_or c.in-Some.ends.now 0 0 ≡ get_or seats w 0 = more.3 0 0 (omega arith) ∙ ap (λ (k : ℕ). get_or seats k 0) (omega arith) in
    let to : get_or c.in-Some.ends.now 1 0 ≡ get_or seats (w + 1) 0 = more.3 1 0 (omega arith) ∙ ap (λ (k : ℕ). get_or seats k 0) (omega arith) in
    let within = rises (λ v. get_or seats v 0) (workshops (tables_of round)) round.proper.seated.1 (w + 1) (omega arith) in
    omega arith

pub loop-w-preserved : goal.loop-w-preserved
loop-w-preserved c =
    let t = tables_of c.args.round.now in
    let seats = c.args.round.now.seats.now in
    let benches = c.args.benches.now in
    let w = c.in-Some.w in
    let cuts = c.loop-w.cuts in
    let h = c.in-Some.ensures.steps in
    let i = c.loop-w.invariant in
    let pair = i.pair in
    let more = window_more seats c.loop-w.w-iterator.iter c.next.new.self.iter (Some c.in-Some.ends) c.in-Some.ends refl h.0 (omega arith) (omega arith) i.rest in
    let from : get_or c.in-Some.ends.now 0 0 ≡ get_or seats w 0 = more.3 0 0 (omega arith) ∙ ap (λ (k : ℕ). get_or seats k 0) (omega arith) in
    let to : get_or c.in-Some.ends.now 1 0 ≡ get_or seats (w + 1) 0 = more.3 1 0 (omega arith) ∙ ap (λ (k : ℕ). get_or seats k 0) (omega arith) in
    let cut = c.cut_of.ensures ∙ ap (λ (k : ℕ). cut_of_bench t (take (k - get_or c.in-Some.ends.now 0 0) (drop (get_or c.in-Some.ends.now 0 0) benches))) to
    ∙ ap (λ (k : ℕ). cut_of_bench t (take (get_or seats (w + 1) 0 - k) (drop k benches))) from in
    record {
      pair = h.0.0 ∙ i.pair;
      left = omega arith;
      rest = more.1;
      long = length-set cuts w _ ∙ i.long;
      told = λ v l. filled_more (λ u. cut_of_bench t (bench_in t benches u)) cuts w c.cut_of.result Open (omega (arith, c.args.round.now.proper.limited.2)) cut (λ u k. i.told u (omega arith)) v (omega arith);
    }

pub returns : goal.returns
returns c = let h = c.in-None.ensures.steps in let i = c.loop-w.invariant in let left = i.left in let pair = i.pair in λ w l. i.told w (omega arith)
