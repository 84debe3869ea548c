-- What stands before the entries, the entries, and the place are laid one behind the other.
use Rattle.std.proofs.Common.{◌≡◌, ℕ, ◌+◌, ◌*◌, ◌%◌, List, [], ◌∷◌, ◌++◌, length, get_or, sym, refl, ap, ◌∙◌, arith}
use Rattle.std.specs.List.{flat_map}
use Rattle.layout.specs.Slices.{over}
use Rattle.layout.specs.Tables.{list_length}
use Rattle.layout.proofs.Flats.{length_table}
use Rattle.layout.proofs.Offsets.{rises}
use Rattle.codec.specs.Rounds.{tables_of}
use Rattle.letters.specs.Letter.{head_bytes, entry_bytes, encode_letter}
use Rattle.letters.specs.Written.{entry_from, entries_from}
use Rattle.letters.specs.declared.entry.Entry.{Entry}
use Rattle.letters.proofs.Writing.{length_rest, letter_laid, length_joined_entries}
use Rattle.letters.proofs.write.Writer.put_letter.Goals as goal

pub put_entries-requires : goal.put_entries-requires
put_entries-requires c =
    let round = c.args.self.now.round.now in
    let end = rises (λ a. get_or round.starts.now a 0) (length round.lots.now) round.proper.started.2 (c.args.applicant + 1) (omega arith) in
    let up = round.proper.started.2 c.args.applicant c.requires.applicant in
    record {
      ordered = omega arith;
      within = omega (arith, round.proper.started.4);
      room = omega (arith, length_rest c.put_head.new.part 5, c.put_head.auto.part, c.requires.room);
    }

pub returns : goal.returns
unfolding encode_letter
returns c =
    let round = c.args.self.now.round.now in
    let t = tables_of round in
    let a = c.args.applicant in
    let n = list_length t a in
    let f : ℕ → Entry = λ j. entry_from t c.args.self.now.left.rows.now c.args.self.now.left.benches.now (get_or t.starts a 0 + j) in
    let es = entries_from t c.args.self.now.left.rows.now c.args.self.now.left.benches.now (get_or t.starts a 0) n in
    let body = flat_map entry_bytes es in
    let count : length es ≡ n = length_table f n in
    let long : length body ≡ 8 * n = length_joined_entries es ∙ ap (λ (k : ℕ). 8 * k) count in
    let place = get_or c.args.self.now.left.results.now a 0 % 256 in
    let low : get_or c.to_le_bytes.result 0 0 ≡ place = ap (λ (xs : List ℕ). get_or xs 0 0) c.to_le_bytes.ensures ∙ omega arith in
    rw low (letter_laid (head_bytes a (get_or t.lots a 0) n) body c.args.part.now c.put_head.new.part c.put_entries.new.part
    (5 + 8 * n) place c.put_head.ensures refl c.put_entries.ensures (omega arith) (omega (arith, c.requires.room))
    ∙ ap (λ (k : ℕ). over (head_bytes a (get_or t.lots a 0) k ++ (body ++ place ∷ [])) c.args.part.now) (sym count))
