-- The indices stand within the tables; what an ask leaves is told by its answer.
use Rattle.std.proofs.Common.{◌≡◌, ℕ, ◌+◌, ◌<◌, List, length, get_or, take, drop, Option, Some, None, sym, refl, ap, ◌∙◌, arith}
use borrow.Rule.Slice.PartMut.{put_mid}
use Rattle.std.specs.List.{between}
use Rattle.layout.specs.Tables.{Tables, Proper, applicants, workshops, rows, places_at, list_length}
use Rattle.points.specs.Standing.{row_of, rows_found, row_worth}
use Rattle.points.proofs.Lots.{tables_proper}
use Rattle.bench.specs.Row.{taken_in, left_out, answer_of}
use Rattle.bench.specs.declared.Answer.{Answer}
use Rattle.bench.specs.declared.Answer.TheVariants.{Kept, Displaced, TurnedDown}
use Rattle.asking.specs.declared.Desk.{Desk}
use Rattle.asking.specs.Asking.{but_for, one_more, Asking, After, asks_on}
use Rattle.asking.proofs.Found.{rows_long, entry_within, entry_named, row_in_slice, seats_rise, seats_in_all}
use Rattle.asking.proofs.Steps.{step_answer, step_row, step_behind}
use Rattle.asking.proofs.ask_next.Goals as goal

-- b has come to position p of its list
module _ (t : Tables) (ok : Proper t) (desk : Desk) (b : ℕ) (small : b < applicants t) (lt : get_or desk.results.now b 0 < list_length t b)
    (p : ℕ) (is_p : p ≡ get_or desk.results.now b 0) where
  at_small : get_or t.starts b 0 + p < length t.entries
  at_small = entry_within t ok b small p (omega arith)

  -- where w stands
  module _ (w : ℕ) (is_w : w ≡ get_or t.entries (get_or t.starts b 0 + p) 0) where
    asked_small : w < workshops t
    asked_small = rw is_w (entry_named t ok b small p (omega arith))

    -- its row, and the bench
    abbrev row : ℕ
    row = get_or desk.rows.now (get_or t.starts b 0 + p) 0

    abbrev bench : List ℕ
    bench = between (get_or t.seats w 0) (get_or t.seats (w + 1) 0) desk.benches.now

    module _ (found : take (length t.entries) desk.rows.now ≡ rows_found t) (asking : Asking t (but_for t desk.results.now b) desk.results.now desk.benches.now) where
      asked : w ≡ get_or t.entries (get_or t.starts b 0 + get_or desk.results.now b 0) 0
      asked = is_w ∙ ap (λ (i : ℕ). get_or t.entries (get_or t.starts b 0 + i) 0) is_p

      is_row : row ≡ row_of t w b
      is_row = row_in_slice t ok b small p (omega arith) desk.rows.now found ∙ ap (λ (i : ℕ). row_of t i b) (sym is_w)

      displaced_row : (z : ℕ) → Displaced z ≡ answer_of row (left_out (row_worth t) row bench) → z < rows t
      displaced_row = step_row t ok _ _ _ b w row _ small lt asking asked is_row refl refl

      -- the bench holds part then, and answers r
      answered : (part : List ℕ) → part ≡ taken_in (row_worth t) row bench → (r : Answer) → r ≡ answer_of row (left_out (row_worth t) row bench) →
          (next : Option ℕ) → next ≡ asks_on t b r →
          After t next (one_more desk.results.now b) (put_mid (get_or t.seats w 0) (places_at t w) desk.benches.now part)
          × (drop (get_or t.seats (workshops t) 0) (put_mid (get_or t.seats w 0) (places_at t w) desk.benches.now part) ≡ drop (get_or t.seats (workshops t) 0) desk.benches.now)
      answered part is_part r is_r next is_next = (
        rw is_next (step_answer t ok _ _ part b w row _ small lt asking asked is_row is_part refl r is_r),
        step_behind t ok _ _ part b w row _ small lt asking asked is_row is_part refl,
      )

pub bounds-round-at : goal.bounds-round-at
bounds-round-at c = at_small _ (tables_proper c.args.round.now) c.args.desk.now c.args.asker c.requires.applicant c.requires.entry _ c.from.ensures

pub bounds-round-workshop : goal.bounds-round-workshop
bounds-round-workshop c =
    omega (arith, asked_small _ (tables_proper c.args.round.now) c.args.desk.now c.args.asker c.requires.applicant c.requires.entry _ c.from.ensures _ c.from-workshop.ensures)

pub bounds-round-workshop-2 : goal.bounds-round-workshop-2
bounds-round-workshop-2 c =
    omega (arith, asked_small _ (tables_proper c.args.round.now) c.args.desk.now c.args.asker c.requires.applicant c.requires.entry _ c.from.ensures _ c.from-workshop.ensures)

pub bounds-desk-at : goal.bounds-desk-at
bounds-desk-at c =
    let within = at_small _ (tables_proper c.args.round.now) c.args.desk.now c.args.asker c.requires.applicant c.requires.entry _ c.from.ensures in
    let long = rows_long _ (tables_proper c.args.round.now) c.args.desk.now.rows.now c.requires.found in
    omega arith

pub slice_bounds-ask-count : goal.slice_bounds-ask-count
slice_bounds-ask-count c =
    seats_rise _ (tables_proper c.args.round.now) _ (asked_small _ (tables_proper c.args.round.now) c.args.desk.now c.args.asker c.requires.applicant c.requires.entry _ c.from.ensures _ c.from-workshop.ensures)

pub slice_bounds-ask-start : goal.slice_bounds-ask-start
slice_bounds-ask-start c =
    seats_rise _ (tables_proper c.args.round.now) _ (asked_small _ (tables_proper c.args.round.now) c.args.desk.now c.args.asker c.requires.applicant c.requires.entry _ c.from.ensures _ c.from-workshop.ensures)

pub slice_bounds-ask-end : goal.slice_bounds-ask-end
slice_bounds-ask-end c =
    let within = seats_in_all _ (tables_proper c.args.round.now) _ (asked_small _ (tables_proper c.args.round.now) c.args.desk.now c.args.asker c.requires.applicant c.requires.entry _ c.from.ensures _ c.from-workshop.ensures) in
    omega (arith, c.requires.asking.room.1, within)

pub bounds-round-row : goal.bounds-round-row
bounds-round-row c =
    displaced_row _ (tables_proper c.args.round.now) c.args.desk.now c.args.asker c.requires.applicant c.requires.entry _ c.from.ensures _ c.from-workshop.ensures
    c.requires.found c.requires.asking c.in-Displaced.row c.in-Displaced.ensures.answer

pub returns-in-Kept : goal.returns-in-Kept
returns-in-Kept c =
    let told =
    answered _ (tables_proper c.args.round.now) c.args.desk.now c.args.asker c.requires.applicant c.requires.entry _ c.from.ensures _ c.from-workshop.ensures
    c.requires.found c.requires.asking c.ask.new.bench c.in-Kept.ensures.bench Kept c.in-Kept.ensures.answer None refl in
    record { results = refl; after = told.0; behind = told.1; rows = refl; same = record { rows = refl; results = refl; benches = refl } }

pub returns-in-Displaced : goal.returns-in-Displaced
returns-in-Displaced c =
    let told =
    answered _ (tables_proper c.args.round.now) c.args.desk.now c.args.asker c.requires.applicant c.requires.entry _ c.from.ensures _ c.from-workshop.ensures
    c.requires.found c.requires.asking c.ask.new.bench c.in-Displaced.ensures.bench (Displaced c.in-Displaced.row) c.in-Displaced.ensures.answer
    (Some c.from-in-Displaced.result) (ap (λ (o : ℕ). Some o) c.from-in-Displaced.ensures) in
    record { results = refl; after = told.0; behind = told.1; rows = refl; same = record { rows = refl; results = refl; benches = refl } }

pub returns-in-TurnedDown : goal.returns-in-TurnedDown
returns-in-TurnedDown c =
    let told =
    answered _ (tables_proper c.args.round.now) c.args.desk.now c.args.asker c.requires.applicant c.requires.entry _ c.from.ensures _ c.from-workshop.ensures
    c.requires.found c.requires.asking c.ask.new.bench c.in-TurnedDown.ensures.bench TurnedDown c.in-TurnedDown.ensures.answer (Some c.args.asker) refl in
    record { results = refl; after = told.0; behind = told.1; rows = refl; same = record { rows = refl; results = refl; benches = refl } }
