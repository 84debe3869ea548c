-- Each record is judged by its place, with the lots seen so far as an array of flags; the first that is at fault answers for all.
use Rattle.std.proofs.Common.{◌≡◌, get_or, false, ℕ, ◌+◌, refl, ap, ◌∙◌, arith}
use Rattle.std.proofs.lemmas.List.{length-set, length-replicate}
use Rattle.std.proofs.lemmas.Result.{err_from_is_err_and}
use Rattle.layout.proofs.Offsets.{record_at_more}
use Rattle.layout.proofs.Firsts.{first_of_more}
use Rattle.codec.proofs.Firsts.{first_of_zero, refused_at, got_there, not_there, fault_from_err, none_from_ok}
use Rattle.codec.proofs.Lists.{record_short, record_by_flags, seen_none, seen_more}
use Rattle.codec.proofs.judge.judge_records.Goals as goal

pub loop-a-init : goal.loop-a-init
loop-a-init c =
    record {
      stands = record { same = refl; place = c.requires.place };
      clean = first_of_zero _;
      flags = length-replicate 65536 false;
      seen = seen_none _;
    }

pub returns-in_default-clause-answer : goal.returns-in_default-clause-answer
returns-in_default-clause-answer c =
    let s = c.loop-a.invariant.stands in
    let m = c.word.ensures.same ∙ s.same in
    let n = not_there _ _ _ _ (rw (s.same, s.place) at c.in_default.ensures.answer) in
    rw m (refused_at _ _ _ _ _ c.loop-a.invariant.clean (record_short _ _ n) c.loop-a-test.true)

pub returns-then-seen-lot-clause-answer : goal.returns-then-seen-lot-clause-answer
returns-then-seen-lot-clause-answer c =
    let v = c.loop-a.invariant in
    let f = record_by_flags _ _ _ v.stands c.requires.size c.in-Some.ensures.answer c.from-lot.ensures (omega arith) v.seen in
    rw v.stands.place (refused_at _ _ _ _ _ v.clean (rw c.if-seen-lot.true at f) c.loop-a-test.true)

pub returns-in_err-judge_list-clause-answer : goal.returns-in_err-judge_list-clause-answer
returns-in_err-judge_list-clause-answer c =
    let v = c.loop-a.invariant in
    let f = record_by_flags _ _ _ v.stands c.requires.size c.in-Some.ensures.answer c.from-lot.ensures (omega arith) v.seen in
    let free : get_or c.loop-a.seen c.from-lot.result false ≡ false = cc in
    let p = err_from_is_err_and c.from_residual.result c.from_residual.ensures.1 in
    let m = c.word.ensures.same ∙ v.stands.same in
    let w = c.in-Some.ensures.moved ∙ ap (λ (x : ℕ). x + 2) v.stands.place in
    rw (p.1, p.2) (refused_at _ _ _ _ _ v.clean (rw free at f ∙ fault_from_err _ _ _ (rw (m, w) at c.in_err-judge_list.ensures.answer)) c.loop-a-test.true)

pub loop-a-preserved : goal.loop-a-preserved
loop-a-preserved c =
    let b = c.args.reader.now.bytes.now in
    let v = c.loop-a.invariant in
    let g = got_there b _ _ _ _ (rw (v.stands.same, v.stands.place) at c.in-Some.ensures.answer) in
    let f = record_by_flags _ _ _ v.stands c.requires.size c.in-Some.ensures.answer c.from-lot.ensures (omega arith) v.seen in
    let m = c.word.ensures.same ∙ v.stands.same in
    let w = c.in-Some.ensures.moved ∙ ap (λ (x : ℕ). x + 2) v.stands.place in
    let l = rw (m, w) at c.in_ok-judge_list.ensures.moved in
    record {
      stands = record { same = l.same; place = omega (arith, l.place, record_at_more b c.loop-a._a) };
      clean = first_of_more _ _ v.clean (rw c.if-seen-lot.false at f ∙ (none_from_ok _ _ _ (rw (m, w) at c.in_ok-judge_list.ensures.answer)).0);
      flags = length-set _ _ _ ∙ v.flags;
      seen = seen_more _ _ _ _ v.flags (c.from-lot.ensures ∙ g.1) (omega arith) v.seen;
    }
