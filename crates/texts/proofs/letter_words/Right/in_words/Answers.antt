use Rattle.std.proofs.Common.{ap}
use Rattle.letters.specs.declared.check.Verdict.{Verdict}
use Rattle.texts.specs.Words.{whose_line, words_of, accepted_line}
use Rattle.texts.proofs.Appends.{four_parts}
use Rattle.texts.proofs.letter_words.Right.in_words.Goals as goal

pub returns : goal.returns
unfolding words_of accepted_line whose_line
returns c =
    four_parts _ _ _ _ _ _ _ _ _ _ c.new-text.ensures.bytes
    (ap (λ (v : Verdict). whose_line v.applicant v.lot.0) c.args.self.now.read)
    c.in_ok-writeln.ensures.bytes c.in_ok-push_wishes.ensures
    c.in_ok-push_place.ensures c.in_ok-writeln-2.ensures.bytes
