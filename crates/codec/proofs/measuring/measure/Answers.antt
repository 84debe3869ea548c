-- From record to record by the counts; the entries are what the records have beyond three bytes each.
use Rattle.std.proofs.Common.{◌≡◌, ℕ, ◌+◌, ap, ◌∙◌, arith}
use Rattle.layout.specs.Bytes.{word, byte, applicants_in, record_at}
use Rattle.layout.proofs.Offsets.{record_at_none, record_at_more, record_at_is}
use Rattle.codec.proofs.Checked.{same_sizes}
use Rattle.codec.proofs.measuring.measure.Goals as goal

pub loop-a-init : goal.loop-a-init
loop-a-init c = (omega (arith, record_at_none c.args.bytes.now), omega arith)

pub overflow_add-at : goal.overflow_add-at
overflow_add-at c = omega (arith, c.loop-a.invariant.1)

pub overflow_add-at-in-loop-a-2 : goal.overflow_add-at-in-loop-a-2
overflow_add-at-in-loop-a-2 c = omega (arith, c.loop-a.invariant.1)

pub loop-a-preserved : goal.loop-a-preserved
loop-a-preserved c =
    let b = c.args.bytes.now in
    let here : c.byte_or_zero.result ≡ byte b (record_at b c.loop-a._a + 2) =
    c.byte_or_zero.ensures ∙ ap (λ (x : ℕ). byte b (x + 2)) c.loop-a.invariant.0 in
    (omega (arith, c.loop-a.invariant.0, here, record_at_more b c.loop-a._a), omega (arith, c.loop-a.invariant.1))

pub overflow_sub-result : goal.overflow_sub-result
overflow_sub-result c = omega (arith, c.loop-a.invariant.0, record_at_is c.args.bytes.now c.loop-a._a)

pub overflow_sub-result-2 : goal.overflow_sub-result-2
overflow_sub-result-2 c = omega (arith, c.loop-a.invariant.0, record_at_is c.args.bytes.now c.loop-a._a)

pub word_or_zero-requires-3 : goal.word_or_zero-requires-3
word_or_zero-requires-3 c = omega (arith, c.loop-a.invariant.1)

pub returns : goal.returns
returns c =
    let b = c.args.bytes.now in
    let n = c.from-applicants.ensures ∙ c.word_or_zero.ensures in
    let m = c.from-workshops.ensures ∙ c.word_or_zero-2.ensures in
    let all : c.loop-a._a ≡ applicants_in b = omega arith in
    let found : c.loop-a.at ≡ record_at b (applicants_in b) = c.loop-a.invariant.0 ∙ ap (λ (a : ℕ). record_at b a) all in
    same_sizes n m (omega (arith, n, m, found, record_at_is b (applicants_in b))) (c.from-2.ensures ∙ c.word_or_zero-3.ensures ∙ ap (λ (x : ℕ). word b x) found)
