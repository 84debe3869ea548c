-- Each row is judged by its place and by where it may stand at the earliest; the first that is at fault answers for all.
use Rattle.std.proofs.Common.{refl, sym, ap, ◌∙◌, arith}
use Rattle.std.proofs.lemmas.Result.{err_from_is_err_and}
use Rattle.codec.specs.declared.judge.Mark.{Mark}
use Rattle.layout.proofs.Firsts.{first_of_more}
use Rattle.codec.proofs.Firsts.{first_of_zero, refused_at, fault_from_err, none_from_ok}
use Rattle.codec.proofs.Rows.{row_fault_is, least_workshop_none, least_applicant_none, least_workshop_more, least_applicant_more}
use Rattle.codec.proofs.judge.judge_rows.Goals as goal

pub loop-i-init : goal.loop-i-init
loop-i-init c =
    record {
      stands = record { same = refl; place = c.requires.place };
      clean = first_of_zero _;
      workshop = sym (least_workshop_none _);
      applicant = sym (least_applicant_none _);
    }

pub returns-in_err-least-clause-answer : goal.returns-in_err-least-clause-answer
returns-in_err-least-clause-answer c =
    let v = c.loop-i.invariant in
    let p = err_from_is_err_and c.from_residual.result c.from_residual.ensures.1 in
    let f = row_fault_is _ _ _ _ _ _ c.requires.many c.requires.size v.workshop v.applicant in
    rw (p.1, p.2) (refused_at _ _ _ _ _ v.clean (f ∙ fault_from_err _ _ _ (rw (v.stands.same, v.stands.place) at c.in_err-least.ensures.answer)) c.loop-i-test.true)

pub loop-i-preserved : goal.loop-i-preserved
loop-i-preserved c =
    let v = c.loop-i.invariant in
    let f = row_fault_is _ _ _ _ _ _ c.requires.many c.requires.size v.workshop v.applicant in
    let n = none_from_ok _ _ _ (rw (v.stands.same, v.stands.place) at c.in_ok-least.ensures.answer) in
    let m = rw (v.stands.same, v.stands.place) at c.in_ok-least.ensures.moved in
    record {
      stands = record { same = m.same; place = omega (arith, m.place) };
      clean = first_of_more _ _ v.clean (f ∙ n.0);
      workshop = sym (ap (λ (x : Mark). x.workshop) n.1) ∙ sym (least_workshop_more _ _);
      applicant = sym (ap (λ (x : Mark). x.applicant) n.1) ∙ sym (least_applicant_more _ _);
    }
