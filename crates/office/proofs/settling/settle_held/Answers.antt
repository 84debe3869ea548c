use Rattle.std.proofs.Common.{rules, refl, sym, ap, ◌∙◌, length, arith}
use Rattle.points.specs.Standing.{rows_found, market}
use Rattle.points.proofs.Lots.{tables_proper}
use Rattle.asking.specs.Ended.{benches_of}
use Rattle.asking.specs.declared.Outcome.{Outcome}
use Rattle.round.specs.Market.{asks, placed}
use Rattle.asking.proofs.Found.{length_rows_found}
use Rattle.asking.proofs.Sums.{few_entries}
use Rattle.codec.specs.Rounds.{tables_of}
use Rattle.codec.proofs.Firsts.{none_from_ok}
use Rattle.layout.specs.Tables.{Tables}
use Rattle.office.specs.Outcome.{results_of, letters_of}
use Rattle.office.proofs.Laid.{length_benches, length_letters}
use Rattle.office.proofs.Leaving.{length_results, letters_written}
use Rattle.office.proofs.Refills.{whole, filled}
use Rattle.office.proofs.settling.settle_held.Goals as goal

pub overflow_add-round : goal.overflow_add-round
overflow_add-round c = let few = few_entries (tables_of c.view-round.result) (tables_proper c.view-round.result) in omega (arith, c.view-round.result.proper.limited.0)

pub invariant_of-result : goal.invariant_of-result
unfolding results_of
invariant_of-result c =
    let t = tables_of c.view-round.result in
    let ok = tables_proper c.view-round.result in
    let same = c.view-round.ensures in
    let counts = (none_from_ok _ _ c.unwrap-outcome.result (sym c.unwrap-outcome.ensures ∙ c.run.ensures.value)).1 in
    let rows = whole _ _ _ _ _ c.unwrap-outcome.ensures c.run.ensures.rows (omega (arith, c.in_ok-rows.ensures.len, length_rows_found t ok)) in
    let results = whole _ _ _ _ _ c.unwrap-outcome.ensures c.run.ensures.results (omega (arith, c.in_ok-results.ensures.len, length_results t ok)) in
    let benches = whole _ _ _ _ _ c.unwrap-outcome.ensures c.run.ensures.benches (omega (arith, c.in_ok-benches.ensures.len, length_benches t ok)) in
    let letters = letters_written t ok _ _ _ (c.left.ensures.rows ∙ rows) (c.left.ensures.results ∙ results) (c.left.ensures.benches ∙ benches) in
    record {
      found = filled c.in_ok-rows.rows _ _ _ _ _ _ c.unwrap-outcome.ensures c.run.ensures.rows (search rules) (omega arith) (omega (arith, c.in_ok-rows.ensures.len, length_rows_found t ok)) ∙ ap rows_found same;
      told = filled c.in_ok-results.results _ _ _ _ _ _ c.unwrap-outcome.ensures c.run.ensures.results (search rules) (omega arith) (omega (arith, c.in_ok-results.ensures.len, length_results t ok)) ∙ ap results_of same;
      seated = filled c.in_ok-benches.benches _ _ _ _ _ _ c.unwrap-outcome.ensures c.run.ensures.benches (search rules) (omega arith) (omega (arith, c.in_ok-benches.ensures.len, length_benches t ok)) ∙ ap benches_of same;
      written = filled c.in_ok-letters.letters _ _ _ _ _ _ c.unwrap.ensures c.write_letters.ensures.written refl (omega arith) (omega (arith, c.in_ok-letters.ensures.len, ap length letters, length_letters t ok)) ∙ letters ∙ ap letters_of same;
      asked = sym (ap (λ (o : Outcome). o.asks) counts) ∙ ap (λ (u : Tables). asks (market u)) same;
      housed = sym (ap (λ (o : Outcome). o.placed) counts) ∙ ap (λ (u : Tables). placed (market u)) same;
    }
