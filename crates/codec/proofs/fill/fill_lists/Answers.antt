-- One record more: its lot, where its list begins, and the list behind those before it.
use Rattle.std.proofs.Common.{◌≡◌, ℕ, ◌+◌, refl, ap, ◌∙◌, arith}
use Rattle.layout.specs.Bytes.{byte, word, lot_in, count_in, start_of, entries_below}
use Rattle.layout.specs.Slices.{table, flat}
use Rattle.layout.proofs.Flats.{length_table}
use Rattle.layout.proofs.Offsets.{start_of_more}
use Rattle.codec.proofs.Lists.{record_after}
use Rattle.codec.proofs.Puts.{over_table_more, over_table_end, over_end, put_part}
use Rattle.codec.proofs.Fills.{part_bytes, record_within, few_entries, start_within, entries_more}
use Rattle.codec.proofs.fill.fill_lists.Goals as goal

pub loop-a-init : goal.loop-a-init
unfolding start_of flat
loop-a-init c = (c.requires.place, refl, omega arith, refl, refl, refl)

pub overflow_add-at : goal.overflow_add-at
overflow_add-at c = omega (arith, record_within _ c.requires.clean _ _ c.requires.many c.loop-a-test.true _ c.loop-a.invariant.0)

pub bounds-bytes-at : goal.bounds-bytes-at
bounds-bytes-at c = omega (arith, record_within _ c.requires.clean _ _ c.requires.many c.loop-a-test.true _ c.loop-a.invariant.0)

pub overflow_add-next : goal.overflow_add-next
overflow_add-next c = omega (arith, record_within _ c.requires.clean _ _ c.requires.many c.loop-a-test.true _ c.loop-a.invariant.0)

pub overflow_add-next-in-loop-a : goal.overflow_add-next-in-loop-a
overflow_add-next-in-loop-a c = omega (arith, record_within _ c.requires.clean _ _ c.requires.many c.loop-a-test.true _ c.loop-a.invariant.0)

pub word_in-requires : goal.word_in-requires
word_in-requires c = omega (arith, record_within _ c.requires.clean _ _ c.requires.many c.loop-a-test.true _ c.loop-a.invariant.0)

pub overflow_add-at-in-loop-a : goal.overflow_add-at-in-loop-a
overflow_add-at-in-loop-a c = omega (arith, record_within _ c.requires.clean _ _ c.requires.many c.loop-a-test.true _ c.loop-a.invariant.0)

pub slice_bounds-fill_list-end : goal.slice_bounds-fill_list-end
slice_bounds-fill_list-end c = omega (arith, record_within _ c.requires.clean _ _ c.requires.many c.loop-a-test.true _ c.loop-a.invariant.0)

pub slice_bounds-fill_list-end-in-loop-a : goal.slice_bounds-fill_list-end-in-loop-a
slice_bounds-fill_list-end-in-loop-a c = omega (arith, start_within _ c.requires.clean _ _ c.requires.many c.loop-a-test.true _ c.loop-a.invariant.0)

pub loop-a-preserved : goal.loop-a-preserved
loop-a-preserved c =
    let b = c.args.bytes.now in
    let a = c.loop-a.a in
    let v = c.loop-a.invariant in
    let after = record_after b a _ v.0 in
    let few = few_entries b c.requires.clean a _ c.requires.many c.loop-a-test.true _ v.0 in
    let count : byte b (c.loop-a.at + 2) ≡ count_in b a = ap (λ (x : ℕ). byte b (x + 2)) v.0 in
    let within = record_within b c.requires.clean a _ c.requires.many c.loop-a-test.true _ v.0 in
    let list = c.fill_list.ensures ∙ part_bytes b (c.loop-a.at + 3) (c.loop-a.at + 3 + c.from-count.result) (byte b (c.loop-a.at + 2)) (omega arith) (omega arith) in
    let long = length_table (λ (j : ℕ). byte b (c.loop-a.at + 3 + j)) (byte b (c.loop-a.at + 2)) in (
      omega arith,
      omega (arith, start_of_more b a),
      omega arith,
      over_table_more (lot_in b) a _ _ _ v.3 (c.word_in.ensures ∙ ap (λ (x : ℕ). word b x) v.0) (omega arith),
      over_table_more (start_of b) a _ _ _ v.4 v.1 (omega arith),
      entries_more b c.requires.clean a _ c.requires.many c.loop-a-test.true _ v.0 _ _ _ _ v.1 v.5 (put_part c.loop-a.start _ _ _ c.loop-a.entries list (omega arith)),
    )

pub returns : goal.returns
returns c =
    let b = c.args.bytes.now in
    let v = c.loop-a.invariant in
    let e : c.loop-a.a ≡ c.args.applicants = omega arith in
    record {
      drawn = over_end (table (lot_in b)) _ _ _ _ e v.3;
      started = over_table_end (start_of b) _ _ _ _ _ e v.4 v.1 (omega arith);
      listed = over_end (entries_below b) _ _ _ _ e v.5;
    }
