-- The list lies within the entries and its numbers are bytes; lot, count and list join to the record.
use Rattle.std.proofs.Common.{◌≡◌, ℕ, ◌-◌, ◌∷◌, ◌++◌, length, get_or, set, ap, ◌∙◌, arith}
use Rattle.std.proofs.lemmas.List.{length-set}
use Rattle.layout.proofs.OfProper.{length_list_at}
use Rattle.layout.specs.Tables.{list_length, list_at}
use Rattle.layout.specs.Encode.{two_bytes}
use Rattle.codec.specs.Rounds.{tables_of}
use Rattle.codec.proofs.Encodes.{list_within, list_small, record_put}
use Rattle.codec.proofs.Puts.{length_part, put_part, put_whole}
use Rattle.codec.proofs.Rounds.{proper_round}
use Rattle.codec.proofs.output.write_record.Goals as goal

pub slice_bounds-list-end : goal.slice_bounds-list-end
slice_bounds-list-end c = omega (arith, list_within (tables_of c.args.round.now) (proper_round c.args.round.now) c.args.a c.requires.one)

pub put_list-requires : goal.put_list-requires
put_list-requires c =
    let t = tables_of c.args.round.now in
    let p = proper_round c.args.round.now in
    let o = set c.put_word.new.out 2 (length (list_at t c.args.a)) in
    let n : length o ≡ length c.put_word.new.out = length-set c.put_word.new.out 2 (length (list_at t c.args.a)) in
    record {
      small = list_small t p c.args.a c.requires.one;
      long = length_part 3 (length o) o (omega arith) ∙ omega (arith, length_list_at t p c.args.a c.requires.one);
    }

pub returns : goal.returns
returns c =
    let t = tables_of c.args.round.now in
    let ys = list_at t c.args.a in
    let o = set c.put_word.new.out 2 (length ys) in
    let n : length o ≡ length c.put_word.new.out = length-set c.put_word.new.out 2 (length ys) in
    let long : length ys ≡ list_length t c.args.a = length_list_at t (proper_round c.args.round.now) c.args.a c.requires.one in
    let list = put_part 3 (length o - 3) c.put_list.new.out ys o c.put_list.ensures (omega arith) in
    record_put 0 (get_or t.lots c.args.a 0) (length ys) ys c.args.out.now c.put_word.new.out _ (omega arith) c.put_word.ensures list
    ∙ (put_whole (two_bytes (get_or t.lots c.args.a 0) ++ (length ys ∷ ys)) c.args.out.now (omega arith)
    ∙ ap (λ (k : ℕ). two_bytes (get_or t.lots c.args.a 0) ++ (k ∷ ys)) long)
