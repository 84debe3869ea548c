use Rattle.std.proofs.Common.{◌≡◌, ◌++◌, string_bytes}
use Rattle.layout.specs.Slices.{flat}
use Rattle.texts.specs.Words.{entry_line}
use Rattle.texts.proofs.letter_words.Right.push_wishes.Given as goal

abbrev pub invariant-loop-j : goal.invariant-loop-j
invariant-loop-j l = string_bytes l.text ≡ string_bytes l.initial.text ++ flat (entry_line l.self.letter.now) l.j
