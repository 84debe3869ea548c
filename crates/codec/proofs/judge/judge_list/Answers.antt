-- Each entry is judged as entry_fault_at says; the first that is at fault answers for the list.
use Rattle.std.proofs.Common.{◌≡◌, ◌<◌, false, length, Some, ◌∙◌, arith}
use Rattle.std.proofs.lemmas.List.{length-set, length-replicate}
use Rattle.std.proofs.lemmas.Bool.Decides.{nat_tests}
use Rattle.layout.specs.declared.Refusal.TheVariants.{Short, BadEntry}
use Rattle.codec.specs.Readers.{entry_fault_at}
use Rattle.layout.proofs.Firsts.{first_of_more}
use Rattle.codec.proofs.Firsts.{first_of_zero, got_there}
use Rattle.codec.proofs.Lists.{list_refused, stands_none, stands_more}
use Rattle.codec.proofs.judge.judge_list.Goals as goal
use Rattle.codec.proofs.judge.judge_list.Goals.{then-entry-workshops-via-then-entry-workshops, then-entry-workshops-via-else-entry-workshops+then-seen-entry}

pub loop-j-init : goal.loop-j-init
loop-j-init c =
    record {
      stands = record { same = c.byte.ensures.same; place = omega (arith, c.in-Some.ensures.moved) };
      clean = first_of_zero _;
      flags = length-replicate 256 false;
      seen = stands_none _ _;
    }

pub returns-in_default-byte-clause-answer : goal.returns-in_default-byte-clause-answer
returns-in_default-byte-clause-answer c =
    let b = c.args.reader.now.bytes.now in
    let n = got_there _ _ _ _ _ c.in-Some.ensures.answer in
    let s = c.loop-j.invariant.stands in
    let m = c.byte-in-loop-j.ensures.same ∙ s.same in
    let a = rw (s.same, s.place) at c.in_default-byte.ensures.answer in
    let f : entry_fault_at b c.args.workshops c.args.reader.now.at c.loop-j._j ≡ Some (Short (length c.byte-in-loop-j.new.self.bytes.now)) = rw m (grind (arith, nat_tests)) in
    list_refused _ _ _ _ _ n.0 (omega arith) (omega arith) c.loop-j.invariant.clean f

pub returns-then-entry-workshops-clause-answer : goal.returns-then-entry-workshops-clause-answer
returns-then-entry-workshops-clause-answer c =
    let b = c.args.reader.now.bytes.now in
    let n = got_there _ _ _ _ _ c.in-Some.ensures.answer in
    let s = c.loop-j.invariant.stands in
    let g = got_there _ _ _ _ _ (rw (s.same, s.place) at c.in-Some-byte.ensures.answer) in
    let k : c.from-entry.result < 256 = omega arith in
    let t = c.loop-j.invariant.seen c.from-entry.result k in
    let f : entry_fault_at b c.args.workshops c.args.reader.now.at c.loop-j._j ≡ Some (BadEntry c.loop-j.reader.at) =
    elim c.then-entry-workshops.branch [
      | then-entry-workshops-via-then-entry-workshops w ↦ grind (arith, nat_tests)
      | then-entry-workshops-via-else-entry-workshops+then-seen-entry w ↦ grind (arith, nat_tests)
    ]
    in
    list_refused _ _ _ _ _ n.0 (omega arith) (omega arith) c.loop-j.invariant.clean f

pub loop-j-preserved : goal.loop-j-preserved
loop-j-preserved c =
    let b = c.args.reader.now.bytes.now in
    let s = c.loop-j.invariant.stands in
    let g = got_there _ _ _ _ _ (rw (s.same, s.place) at c.in-Some-byte.ensures.answer) in
    let k : c.from-entry.result < 256 = omega arith in
    let t = c.loop-j.invariant.seen c.from-entry.result k in
    record {
      stands = record { same = c.byte-in-loop-j.ensures.same ∙ s.same; place = omega (arith, c.in-Some-byte.ensures.moved) };
      clean = first_of_more _ _ c.loop-j.invariant.clean (grind (arith, nat_tests));
      flags = length-set _ _ _ ∙ c.loop-j.invariant.flags;
      seen = stands_more _ _ _ _ _ c.loop-j.invariant.flags (c.from-entry.ensures ∙ g.1) k c.loop-j.invariant.seen;
    }
