-- The places of one workshop more.
use Rattle.std.proofs.Common.{ℕ, List, [], ◌∷◌, ◌++◌, sym, ap, ◌∙◌, arith}
use Rattle.std.proofs.lemmas.List.{take_all, take_more_set}
use Rattle.layout.specs.Slices.{table}
use Rattle.layout.specs.Tables.{places_at}
use Rattle.layout.proofs.Flats.{table_more}
use Rattle.codec.specs.Rounds.{tables_of}
use Rattle.codec.proofs.output.write_places.Goals as goal

pub loop-w-preserved : goal.loop-w-preserved
loop-w-preserved c =
    let f = places_at (tables_of c.args.round.now) in
    take_more_set _ _ _ (omega arith) ∙ (ap (λ (p : List ℕ). p ++ (f c.loop-w.w ∷ [])) c.loop-w.invariant ∙ sym (table_more f c.loop-w.w))

pub returns : goal.returns
returns c =
    let f = places_at (tables_of c.args.round.now) in
    sym (take_all c.loop-w.w c.loop-w.out (omega arith)) ∙ (c.loop-w.invariant ∙ ap (λ (n : ℕ). table f n) (omega arith))
