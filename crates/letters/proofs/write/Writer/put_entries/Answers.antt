-- One entry more is laid behind those that lie there.
use Rattle.std.proofs.Common.{◌≡◌, ℕ, ◌+◌, ◌-◌, ◌*◌, ◌<◌, List, length, take, drop, get_or, sym, ap, ◌∙◌, inl, inr, arith}
use borrow.Rule.Slice.PartMut.{put_mid}
use Rattle.std.proofs.lemmas.List.{length-take, length-drop}
use Rattle.std.specs.Slice.Iter.{iter_rest}
use Rattle.std.specs.List.{flat_map}
use Rattle.layout.specs.Slices.{over}
use Rattle.layout.proofs.Flats.{length_table}
use Rattle.codec.specs.Rounds.{tables_of}
use Rattle.letters.specs.Letter.{entry_bytes}
use Rattle.letters.specs.Written.{entry_with, entry_from, entries_from}
use Rattle.letters.specs.declared.entry.Entry.{Entry}
use Rattle.asking.proofs.Begin.{room_there}
use Rattle.letters.proofs.Writing.{item_more, part_item, over_bytes, joined_table_more, length_joined_entries}
use Rattle.letters.proofs.write.Writer.put_entries.Goals as goal

pub entry-requires : goal.entry-requires
entry-requires c =
    let round = c.args.self.now.round.now in
    let s = c.args.start in
    let n = c.args.end - s in
    let i = c.loop-j.j-iterator.count in
    let v = c.loop-j.invariant in
    let h = c.in-Some.ensures.steps in
    let more = item_more (take n (drop s round.entries.now)) (iter_rest c.loop-j.j-iterator.iter.a) (iter_rest c.next.new.self.iter.a) i c.in-Some.workshop.now v.entries h.0.0 in
    let room = ap length h.0.0 in
    let left = v.left in
    let small : i < n = omega arith in
    let is : c.in-Some.workshop.now ≡ get_or round.entries.now (s + i) 0 = more.1 ∙ part_item round.entries.now s n i small in
    let named = round.proper.named (s + i) (omega arith) in
    omega arith

pub loop-j-preserved : goal.loop-j-preserved
loop-j-preserved c =
    let round = c.args.self.now.round.now in
    let t = tables_of round in
    let rows = c.args.self.now.left.rows.now in
    let benches = c.args.self.now.left.benches.now in
    let s = c.args.start in
    let n = c.args.end - s in
    let i = c.loop-j.j-iterator.count in
    let v = c.loop-j.invariant in
    let h = c.in-Some.ensures.steps in
    let left = v.left in
    let room = ap length h.0.0 in
    let small : i < n = omega arith in
    let one = item_more (take n (drop s round.entries.now)) (iter_rest c.loop-j.j-iterator.iter.a) (iter_rest c.next.new.self.iter.a) i c.in-Some.workshop.now v.entries h.0.0 in
    let other = item_more (take n (drop s rows)) (iter_rest c.loop-j.j-iterator.iter.b) (iter_rest c.next.new.self.iter.b) i c.in-Some.row.now v.rows h.0.1 in
    let workshop : c.in-Some.workshop.now ≡ get_or round.entries.now (s + i) 0 = one.1 ∙ part_item round.entries.now s n i small in
    let row : c.in-Some.row.now ≡ get_or rows (s + i) 0 = other.1 ∙ part_item rows s n i small in
    let f : ℕ → Entry = λ j. entry_from t rows benches (s + j) in
    let so_far = flat_map entry_bytes (entries_from t rows benches s i) in
    let len : length so_far ≡ 8 * i = length_joined_entries _ ∙ ap (λ (m : ℕ). 8 * m) (length_table f i) in
    let entry : c.entry.result ≡ f i =
    c.entry.ensures ∙ ap (λ (w : ℕ). entry_with t benches w c.in-Some.row.now) workshop ∙ ap (entry_with t benches (get_or round.entries.now (s + i) 0)) row
    in
    let bytes = c.copy_from_slice.ensures.after ∙ c.bytes_of.ensures ∙ ap entry_bytes {y = f i} entry in
    let j = c.in-Some.j in
    let lies : put_mid (8 * i) (8 * i + 8 - 8 * i) c.loop-j.part c.copy_from_slice.new.self ≡ over (flat_map entry_bytes (entries_from t rows benches s (i + 1))) c.args.part.now =
    ap (λ (ys : List ℕ). put_mid (8 * i) (8 * i + 8 - 8 * i) c.loop-j.part ys) bytes
    ∙ over_bytes so_far (entry_bytes (f i)) c.args.part.now c.loop-j.part (8 * i) (8 * i + 8 - 8 * i) v.laid len (omega arith)
    ∙ ap (λ (xs : List ℕ). over xs c.args.part.now) (sym (joined_table_more entry_bytes f i))
    in
    record {
      left = omega arith;
      entries = rw h.2 one.0;
      rows = rw h.2 other.0;
      laid = rw (h.1, h.2) lies;
    }

pub returns : goal.returns
returns c =
    let round = c.args.self.now.round.now in
    let t = tables_of round in
    let rows = c.args.self.now.left.rows.now in
    let benches = c.args.self.now.left.benches.now in
    let s = c.args.start in
    let n = c.args.end - s in
    let i = c.loop-j.j-iterator.count in
    let v = c.loop-j.invariant in
    let left = v.left in
    let behind = length-drop i (take n (drop s rows)) in
    let there = length-take n (drop s rows) in
    let all = length-drop s rows in
    let enough = room_there t _ _ _ c.args.self.now.room in
    let b = ap length v.rows in
    let done : i ≡ n = elim c.in-None.ensures.steps.0 [ inl p ↦ let q = p.1.0 in omega arith | inr p ↦ let q = p.1.0 in omega arith ] in
    v.laid ∙ ap (λ (m : ℕ). over (flat_map entry_bytes (entries_from t rows benches s m)) c.args.part.now) done
