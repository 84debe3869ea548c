-- One row more: the starts up to its workshop, its applicant and its points.
use Rattle.std.proofs.Common.{◌≡◌, ℕ, ◌+◌, ◌-◌, ◌*◌, ◌<◌, ◌≤◌, List, length, take, drop, sym, refl, ap, ◌∙◌, arith}
use Rattle.std.specs.Slice.Iter.{chunks_exact_rest, chunks_exact_size}
use Rattle.std.specs.Iterator.Adapters.{enumerate_source, enumerate_count}
use Rattle.std.proofs.lemmas.List.{length-drop}
use Rattle.layout.specs.Slices.{over, table}
use Rattle.layout.specs.Bytes.{byte, word, row_at, row_applicant_in, row_points_in, rows_before}
use Rattle.layout.proofs.Clean.{clean_from_none}
use Rattle.codec.proofs.Puts.{over_table_more, over_end, length_part}
use Rattle.codec.proofs.Fills.{row_before, row_byte, row_word, rows_left}
use Rattle.codec.proofs.Sheets.{next_open, next_open_none, next_open_more, sheet_small, sheet_order, sheet_opens, last_small, last_opens, over_level}
use Rattle.codec.proofs.fill.fill_rows.Goals as goal

pub slice_bounds-chunks_exact-end : goal.slice_bounds-chunks_exact-end
slice_bounds-chunks_exact-end c = omega (arith, (clean_from_none _ c.requires.clean).whole)

pub loop-i-init : goal.loop-i-init
loop-i-init c =
    let b = c.args.bytes.now in
    let all = take (c.args.«from» + 5 * c.args.rows - c.args.«from») (drop c.args.«from» b) in
    let made = c.into_iter-i-iterator.ensures.into_iter_gives in
    let source = ap enumerate_source made ∙ c.enumerate-i-items.ensures.source in
    let none = sym (ap enumerate_count made ∙ c.enumerate-i-items.ensures.count) in
    record {
      size = ap chunks_exact_size source ∙ c.chunks_exact.ensures.size;
      left = ap chunks_exact_rest source ∙ (c.chunks_exact.ensures.rest ∙ ap (λ (k : ℕ). drop (5 * k) all) none);
      within = omega (arith, none);
      opened = sym (next_open_none b) ∙ ap (λ (k : ℕ). next_open b k) none;
      sheeted = refl;
      rowed = ap (λ (k : ℕ). over (table (row_applicant_in b) k) c.args.row_applicants.now) none;
      pointed = ap (λ (k : ℕ). over (table (row_points_in b) k) c.args.row_points.now) none;
    }

pub open_sheets-requires : goal.open_sheets-requires
open_sheets-requires c =
    let b = c.args.bytes.now in
    let f : ℕ = c.args.«from» in
    let all = take (f + 5 * c.args.rows - f) (drop f b) in
    let v = c.loop-i.invariant in
    let s = c.in-Some.ensures.steps in
    let i : ℕ = c.in-Some.i in
    let there : f + 5 * c.args.rows ≤ length b = omega (arith, (clean_from_none b c.requires.clean).whole) in
    let turn = ap (λ (k : ℕ). drop (5 * k) all) s.1 ∙ (sym v.left ∙ s.0.1.0) in
    let five = s.0.1.1 ∙ v.size in
    let l : i < c.args.rows = row_before b f c.args.rows i c.in-Some.row.now _ there turn five in
    let place : f + 5 * i ≡ row_at b i = omega arith in
    let opened = v.opened ∙ ap (λ (k : ℕ). next_open b k) (sym s.1) in
    let until : c.from-until.result ≡ byte b (f + 5 * i) = c.from-until.ensures ∙ (row_byte b f c.args.rows i c.in-Some.row.now _ there turn five 0 (omega arith) ∙ ap (λ (k : ℕ). byte b k) (omega arith)) in
    let order = sheet_order b c.requires.clean i c.args.rows (f + 5 * i) c.requires.many l place _ opened in
    record {
      order = omega arith;
      room = omega (arith, sheet_small b c.requires.clean i c.args.rows (f + 5 * i) c.requires.many l place);
    }

pub loop-i-preserved : goal.loop-i-preserved
loop-i-preserved c =
    let b = c.args.bytes.now in
    let f : ℕ = c.args.«from» in
    let all = take (f + 5 * c.args.rows - f) (drop f b) in
    let v = c.loop-i.invariant in
    let s = c.in-Some.ensures.steps in
    let i : ℕ = c.in-Some.i in
    let there : f + 5 * c.args.rows ≤ length b = omega (arith, (clean_from_none b c.requires.clean).whole) in
    let turn = ap (λ (k : ℕ). drop (5 * k) all) s.1 ∙ (sym v.left ∙ s.0.1.0) in
    let five = s.0.1.1 ∙ v.size in
    let l : i < c.args.rows = row_before b f c.args.rows i c.in-Some.row.now _ there turn five in
    let place : f + 5 * i ≡ row_at b i = omega arith in
    let opened = v.opened ∙ ap (λ (k : ℕ). next_open b k) (sym s.1) in
    let until : c.from-until.result ≡ byte b (f + 5 * i) = c.from-until.ensures ∙ (row_byte b f c.args.rows i c.in-Some.row.now _ there turn five 0 (omega arith) ∙ ap (λ (k : ℕ). byte b k) (omega arith)) in
    let order = sheet_order b c.requires.clean i c.args.rows (f + 5 * i) c.requires.many l place _ opened in
    let next : i + 1 ≡ enumerate_count c.next.new.self = omega (arith, s.1, s.2) in
    record {
      size = s.0.0 ∙ v.size;
      left = rows_left b f c.args.rows i c.in-Some.row.now _ there turn five ∙ ap (λ (k : ℕ). drop (5 * k) all) next;
      within = omega arith;
      opened = ap (λ (x : ℕ). x + 1) (until ∙ ap (λ (k : ℕ). byte b k) place) ∙ (sym (next_open_more b i) ∙ ap (λ (k : ℕ). next_open b k) next);
      sheeted =
          over_level (λ (w : ℕ). rows_before b w c.args.rows) _ _ _ _ _ _ (omega arith)
          (λ k h z. sheet_opens b c.requires.clean i c.args.rows (f + 5 * i) c.requires.many l place _ opened k h (omega arith)) v.sheeted c.open_sheets.ensures;
      rowed =
          over_table_more (row_applicant_in b) i _ _ _ (v.rowed ∙ ap (λ (k : ℕ). over (table (row_applicant_in b) k) c.args.row_applicants.now) (sym s.1))
          (c.word_in.ensures ∙ (row_word b f c.args.rows i c.in-Some.row.now _ there turn five 1 (omega arith) ∙ ap (λ (k : ℕ). word b (k + 1)) place)) (omega arith)
          ∙ ap (λ (k : ℕ). over (table (row_applicant_in b) k) c.args.row_applicants.now) next;
      pointed =
          over_table_more (row_points_in b) i _ _ _ (v.pointed ∙ ap (λ (k : ℕ). over (table (row_points_in b) k) c.args.row_points.now) (sym s.1))
          (c.word_in-in-loop-i.ensures ∙ (row_word b f c.args.rows i c.in-Some.row.now _ there turn five 3 (omega arith) ∙ ap (λ (k : ℕ). word b (k + 3)) place)) (omega arith)
          ∙ ap (λ (k : ℕ). over (table (row_points_in b) k) c.args.row_points.now) next;
    }

pub open_sheets-requires-2 : goal.open_sheets-requires-2
open_sheets-requires-2 c =
    let b = c.args.bytes.now in
    let f : ℕ = c.args.«from» in
    let v = c.loop-i.invariant in
    let s = c.in-None.ensures.steps in
    let there : f + 5 * c.args.rows ≤ length b = omega (arith, (clean_from_none b c.requires.clean).whole) in
    let all = take (f + 5 * c.args.rows - f) (drop f b) in
    let i : ℕ = enumerate_count c.loop-i.i-iterator in
    let e : i ≡ c.args.rows =
    omega (arith, s.0.1.0, v.size, v.within, ap (λ (x : List ℕ). length x) v.left, length-drop (5 * i) all, length_part f (f + 5 * c.args.rows) b there) in
    let small = last_small b c.requires.clean i c.args.rows c.loop-i.next c.requires.many e v.opened in
    record { order = omega arith; room = omega arith }

pub returns : goal.returns
returns c =
    let b = c.args.bytes.now in
    let f : ℕ = c.args.«from» in
    let v = c.loop-i.invariant in
    let s = c.in-None.ensures.steps in
    let there : f + 5 * c.args.rows ≤ length b = omega (arith, (clean_from_none b c.requires.clean).whole) in
    let all = take (f + 5 * c.args.rows - f) (drop f b) in
    let i : ℕ = enumerate_count c.loop-i.i-iterator in
    let e : i ≡ c.args.rows =
    omega (arith, s.0.1.0, v.size, v.within, ap (λ (x : List ℕ). length x) v.left, length-drop (5 * i) all, length_part f (f + 5 * c.args.rows) b there) in
    let small = last_small b c.requires.clean i c.args.rows c.loop-i.next c.requires.many e v.opened in
    record {
      sheeted =
          over_level (λ (w : ℕ). rows_before b w c.args.rows) _ _ _ _ _ _ (omega arith)
          (λ k h _. last_opens b c.requires.clean i c.args.rows c.loop-i.next c.requires.many e v.opened k h) v.sheeted c.open_sheets-2.ensures;
      rowed = over_end (table (row_applicant_in b)) _ _ _ _ e v.rowed;
      pointed = over_end (table (row_points_in b)) _ _ _ _ e v.pointed;
    }
