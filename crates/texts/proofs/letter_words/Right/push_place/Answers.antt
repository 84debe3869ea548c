use Rattle.std.proofs.Common.{sym, ap, ◌∙◌}
use Rattle.letters.specs.declared.check.Verdict.{Verdict}
use Rattle.texts.specs.Words.{got_line, got_none_line}
use Rattle.texts.proofs.Entries.{got_whole, line_of_none, line_of_place}
use Rattle.texts.proofs.letter_words.Right.push_place.Goals as goal

pub returns-in_default : goal.returns-in_default
unfolding got_none_line
returns-in_default c =
    let line = line_of_none c.args.self.now.letter.now (sym c.in_default.is ∙ ap (λ (v : Verdict). v.place) c.args.self.now.read) in rw (← line) c.writeln.ensures.bytes

pub unwrap-workshop-requires : goal.unwrap-workshop-requires
unwrap-workshop-requires c =
    let there = got_whole c.args.self.now.letter.now c.args.self.now.whole c.in-Some.place (sym c.in-Some.is ∙ ap (λ (v : Verdict). v.place) c.args.self.now.read) in rw (c.entry_at.ensures, there)

pub returns : goal.returns
unfolding got_line
returns c =
    let told = sym c.in-Some.is ∙ ap (λ (v : Verdict). v.place) c.args.self.now.read in
    let there = got_whole c.args.self.now.letter.now c.args.self.now.whole c.in-Some.place told in
    let line = line_of_place c.args.self.now.letter.now c.in-Some.place told c.unwrap-workshop.result (sym c.unwrap-workshop.ensures ∙ c.entry_at.ensures ∙ there) in
    rw (← line) c.writeln-2.ensures.bytes
