use Rattle.std.proofs.Common.{sym, ap, ◌∙◌}
use Rattle.letters.specs.declared.check.Verdict.{Verdict}
use Rattle.texts.proofs.Entries.{entry_whole, line_of_entry}
use Rattle.texts.proofs.letter_words.Right.push_entry.Goals as goal

pub unwrap-entry-requires : goal.unwrap-entry-requires
unwrap-entry-requires c =
    let there = entry_whole c.args.self.now.letter.now c.args.self.now.whole c.args.j c.requires in rw (c.entry_at.ensures, there)

pub returns : goal.returns
returns c =
    let there = entry_whole c.args.self.now.letter.now c.args.self.now.whole c.args.j c.requires in
    let line = line_of_entry c.args.self.now.letter.now c.args.j c.unwrap-entry.result c.args.self.now.verdict.lot c.reaches-reached.result (sym c.unwrap-entry.ensures ∙ c.entry_at.ensures ∙ there) (ap (λ (v : Verdict). v.lot.0) c.args.self.now.read) c.reaches-reached.ensures in
    rw (← line) c.push_wish.ensures
