-- What is told is exact.
use Rattle.std.proofs.Common.{Result, sym, subst, arith}
use Rattle.layout.specs.declared.Refusal.{Refusal}
use Rattle.letters.specs.Exact.{Exact}
use Rattle.letters.specs.declared.check.Verdict.{Verdict}
use Rattle.letters.proofs.Judged.{exact}
use Rattle.letters.proofs.check.check_letter.Goals as goal

pub returns : goal.returns
returns c =
    let b = c.args.bytes.now in
    let P : Result Verdict Refusal → Type 0 = λ r. Exact b r in
    record { told = c.judge.ensures; exact = subst P (sym c.judge.ensures) (exact b (λ k h. omega (arith, c.type_inv.bytes k))) }
