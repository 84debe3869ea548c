-- The letter is what lies at the front of out, and so the checker accepts it where the round is settled.
use Rattle.std.proofs.Common.{◌≡◌, ℕ, List, length, take, sym, ap, ◌∙◌, subst, rules}
use Rattle.std.proofs.lemmas.List.{take_at}
use Rattle.codec.specs.Rounds.{tables_of}
use Rattle.points.proofs.Lots.{tables_proper}
use Rattle.letters.specs.Settled.{Accepted}
use Rattle.letters.specs.Written.{letter_bytes}
use Rattle.letters.proofs.Writing.{length_letter}
use Rattle.letters.proofs.Told.{letters_settled}
use Rattle.letters.proofs.write.write_letter.Goals as goal

pub returns : goal.returns
returns c =
    let round = c.args.round.now in
    let t = tables_of round in
    let a = c.args.applicant in
    let bytes = letter_bytes t c.args.left.rows.now c.args.left.results.now c.args.left.benches.now a in
    let long : length bytes ≡ c.letter_len-len.result =
    length_letter t round.proper.started c.args.left.rows.now c.args.left.results.now c.args.left.benches.now a ∙ sym c.letter_len-len.ensures
    in
    let front : take c.letter_len-len.result c.put_letter.new.part ≡ bytes =
    ap (take c.letter_len-len.result) c.put_letter.ensures ∙ take_at bytes _ _ long
    in
    record {
      told = search rules;
      written = c.put_letter.ensures;
      accepted = λ settled.
          let P : List ℕ → Type 0 = λ b. Accepted b in
          subst P (sym front) (letters_settled t _ _ _ (tables_proper round) settled a c.if-applicant-round.false).1;
    }
