use Rattle.std.proofs.Common.{sym, ◌∙◌}
use Rattle.std.proofs.lemmas.Result.{err_from_is_err_and}
use Rattle.layout.specs.Slices.{or_else}
use Rattle.layout.proofs.Firsts.{or_else_none}
use Rattle.letters.specs.Faults.{letter_fault, place_fault, verdict_in}
use Rattle.letters.specs.Exact.{judged_bytes}
use Rattle.letters.proofs.Reading.{none_from_ok, some_from_err}
use Rattle.texts.specs.Words.{fault_in_letter}
use Rattle.texts.proofs.letter_words.explain.Goals as goal

pub invariant_of-right : goal.invariant_of-right
unfolding judged_bytes
invariant_of-right c =
    let b = c.args.letter.now in
    let right = none_from_ok (or_else (letter_fault b) (place_fault b)) (verdict_in b) c.in_ok-verdict.verdict (sym c.in_ok-verdict.was ∙ c.check_letter.ensures.told) in
    record { whole = rw (or_else_none (letter_fault b) (place_fault b) right.0).0; read = right.1 }

pub returns-in_err-verdict : goal.returns-in_err-verdict
unfolding fault_in_letter judged_bytes
returns-in_err-verdict c =
    let p = err_from_is_err_and c.from_residual.result c.from_residual.ensures.1 in
    rw (p.1, p.2) (some_from_err (fault_in_letter c.args.letter.now) (verdict_in c.args.letter.now) c.in_err-verdict.field-0.0 (sym c.in_err-verdict.was ∙ c.check_letter.ensures.told))

pub returns-in_err-text : goal.returns-in_err-text
unfolding fault_in_letter judged_bytes
returns-in_err-text c =
    let p = err_from_is_err_and c.from_residual-in_err-text.result c.from_residual-in_err-text.ensures.1 in
    rw (p.1, p.2) (none_from_ok (fault_in_letter c.args.letter.now) (verdict_in c.args.letter.now) c.in_ok-verdict.verdict (sym c.in_ok-verdict.was ∙ c.check_letter.ensures.told)).0

pub returns : goal.returns
unfolding fault_in_letter judged_bytes
returns c = ((none_from_ok (fault_in_letter c.args.letter.now) (verdict_in c.args.letter.now) c.in_ok-verdict.verdict (sym c.in_ok-verdict.was ∙ c.check_letter.ensures.told)).0, c.in_ok-text.ensures)
