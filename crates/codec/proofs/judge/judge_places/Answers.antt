-- Each byte is judged as places_fault says; the first that is at fault answers for all.
use Rattle.std.proofs.Common.{◌≡◌, length, Some, refl, ◌∙◌, arith}
use Rattle.std.proofs.lemmas.Bool.Decides.{nat_tests}
use Rattle.layout.specs.Bytes.{places_fault}
use Rattle.layout.specs.declared.Refusal.TheVariants.{Short, BadSize}
use Rattle.layout.proofs.Firsts.{first_of_more}
use Rattle.codec.proofs.Firsts.{first_of_zero, refused_at}
use Rattle.codec.proofs.judge.judge_places.Goals as goal

pub loop-w-init : goal.loop-w-init
loop-w-init c = record { stands = record { same = refl; place = c.requires }; clean = first_of_zero _ }

pub returns-in_default-clause-answer : goal.returns-in_default-clause-answer
returns-in_default-clause-answer c =
    let s = c.loop-w.invariant.stands in
    let m = c.byte.ensures.same ∙ s.same in
    let a = rw (s.same, s.place) at c.in_default.ensures.answer in
    let f : places_fault c.args.reader.now.bytes.now c.loop-w._w ≡ Some (Short (length c.byte.new.self.bytes.now)) = rw m (grind (arith, nat_tests)) in
    refused_at _ _ _ _ _ c.loop-w.invariant.clean f c.loop-w-test.true

pub returns-then-places-gt-MOST_PLACES-clause-answer : goal.returns-then-places-gt-MOST_PLACES-clause-answer
returns-then-places-gt-MOST_PLACES-clause-answer c =
    let s = c.loop-w.invariant.stands in
    let a = rw (s.same, s.place) at c.in-Some.ensures.answer in
    let f : places_fault c.args.reader.now.bytes.now c.loop-w._w ≡ Some (BadSize c.loop-w.reader.at) = grind (arith, nat_tests) in
    refused_at _ _ _ _ _ c.loop-w.invariant.clean f c.loop-w-test.true

pub loop-w-preserved : goal.loop-w-preserved
loop-w-preserved c =
    let s = c.loop-w.invariant.stands in
    let a = rw (s.same, s.place) at c.in-Some.ensures.answer in
    record { stands = record { same = c.byte.ensures.same ∙ s.same; place = omega (arith, c.in-Some.ensures.moved) }; clean = first_of_more _ _ c.loop-w.invariant.clean (grind (arith, nat_tests)) }
