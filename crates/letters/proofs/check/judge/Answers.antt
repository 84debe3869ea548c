-- The faults in turn: the head's, the entries', the end's, and then the place.
use Rattle.std.proofs.Common.{◌≡◌, ℕ, ◌≤◌, true, false, not, eqb, List, None, Ok, Option, refl, ap, ◌∙◌, arith, rules}
use Rattle.std.specs.Option.{option_eq}
use Rattle.std.proofs.lemmas.Result.{err_from_is_err_and}
use Rattle.std.proofs.lemmas.Bool.Decides.{nat_tests}
use Rattle.layout.specs.Bytes.{byte, word, first_of}
use Rattle.layout.specs.declared.Refusal.{Refusal}
use Rattle.layout.specs.Tables.{most_entries}
use Rattle.cuts.specs.Cuts.{first_that}
use Rattle.letters.specs.Letter.{count_in, place_at, place_told}
use Rattle.letters.specs.Faults.{letter_fault, head_fault, listed_fault, end_fault, place_fault, reached_in, verdict_in}
use Rattle.letters.specs.Exact.{judged_bytes}
use Rattle.letters.specs.declared.check.Verdict.{Verdict}
use Rattle.letters.proofs.Reading.{none_from_ok, some_from_err, fault_at_1, fault_at_2, fault_at_3, fault_at_4, no_fault, place_fault_is}
use Rattle.letters.proofs.check.judge.Goals as goal

-- the faults of the entries
abbrev entries_fault : List ℕ → Option Refusal
entries_fault b = first_of (listed_fault b) (count_in b)

verdict_same : (b : List ℕ) (a l n : ℕ) (p : Option ℕ) → a ≡ word b 0 → l ≡ word b 2 → n ≡ count_in b → p ≡ place_told (byte b (place_at b)) →
    ◌≡◌ {A = Verdict} (record { applicant = a; lot = record { 0 = l }; entries = n; place = p }) (verdict_in b)
verdict_same b a l n p e f g h = cc

few_entries : (b : List ℕ) → head_fault b ≡ None → count_in b ≤ most_entries
few_entries b none = grind (arith, nat_tests)

pub returns-in_err-count : goal.returns-in_err-count
unfolding judged_bytes letter_fault
returns-in_err-count c =
    let b = c.args.bytes.now in
    let p = err_from_is_err_and c.from_residual.result c.from_residual.ensures.1 in
    let head = some_from_err (head_fault b) _ _ c.in_err-count.ensures.read in
    rw (p.1, p.2) (fault_at_1 (head_fault b) (entries_fault b) (end_fault b) (place_fault b) (verdict_in b) _ head)

pub returns-in_err-first : goal.returns-in_err-first
unfolding judged_bytes letter_fault
returns-in_err-first c =
    let b = c.args.bytes.now in
    let p = err_from_is_err_and c.from_residual-in_err-first.result c.from_residual-in_err-first.ensures.1 in
    let head = none_from_ok (head_fault b) _ _ c.in_ok-count.ensures.read in
    let listed = some_from_err (entries_fault b) _ _ c.in_err-first.ensures in
    rw (p.1, p.2) (fault_at_2 (head_fault b) (entries_fault b) (end_fault b) (place_fault b) (verdict_in b) _ head.0 listed)

pub returns-in_err-place : goal.returns-in_err-place
unfolding judged_bytes letter_fault
returns-in_err-place c =
    let b = c.args.bytes.now in
    let p = err_from_is_err_and c.from_residual-in_err-place.result c.from_residual-in_err-place.ensures.1 in
    let head = none_from_ok (head_fault b) _ _ c.in_ok-count.ensures.read in
    let listed = none_from_ok (entries_fault b) _ _ c.in_ok-first.ensures in
    let end = some_from_err (end_fault b) _ _ c.in_err-place.ensures in
    rw (p.1, p.2) (fault_at_3 (head_fault b) (entries_fault b) (end_fault b) (place_fault b) (verdict_in b) _ head.0 listed.0 end)

pub returns-then-ne : goal.returns-then-ne
unfolding judged_bytes letter_fault
returns-then-ne c =
    let b = c.args.bytes.now in
    let head = none_from_ok (head_fault b) _ _ c.in_ok-count.ensures.read in
    let listed = none_from_ok (entries_fault b) (first_that (reached_in b) (count_in b)) _ c.in_ok-first.ensures in
    let end = none_from_ok (end_fault b) (place_told (byte b (place_at b))) _ c.in_ok-place.ensures in
    let other = place_fault_is b (few_entries b head.0) _ _ true _ end.1 listed.1 c.if-ne.ensures c.unwrap_or.ensures in
    fault_at_4 (head_fault b) (entries_fault b) (end_fault b) (place_fault b) (verdict_in b) _ head.0 listed.0 end.0 other

pub returns : goal.returns
unfolding judged_bytes letter_fault
returns c =
    let b = c.args.bytes.now in
    let head = none_from_ok (head_fault b) _ _ c.in_ok-count.ensures.read in
    let listed = none_from_ok (entries_fault b) (first_that (reached_in b) (count_in b)) _ c.in_ok-first.ensures in
    let end = none_from_ok (end_fault b) (place_told (byte b (place_at b))) _ c.in_ok-place.ensures in
    let same : false ≡ not (option_eq eqb c.in_ok-place.place c.in_ok-first.first) = search rules in
    let right = place_fault_is b (few_entries b head.0) _ _ false _ end.1 listed.1 same refl in
    let applicant : c.from_le_bytes-2.result ≡ word b 0 = omega arith in
    let lot : c.from_le_bytes.result ≡ word b 2 = omega arith in
    let good = no_fault (head_fault b) (entries_fault b) (end_fault b) (place_fault b) (verdict_in b) head.0 listed.0 end.0 right in
    ap Ok (verdict_same b _ _ _ _ applicant lot head.1 end.1) ∙ good
