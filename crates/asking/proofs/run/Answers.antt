-- A run begins with nobody having asked, and ends where all have settled.
use Rattle.std.proofs.Common.{◌≡◌, ℕ, ◌-◌, ◌<◌, ◌≤◌, List, ◌++◌, length, get_or, take, drop, replicate, None, Ok, Result, ap, ◌∙◌}
use Rattle.std.proofs.lemmas.List.{take_at}
use Rattle.layout.specs.Slices.{over}
use Rattle.layout.specs.Tables.{Tables, Proper, applicants, workshops}
use Rattle.layout.specs.declared.Refusal.{Refusal}
use Rattle.codec.specs.Rounds.{tables_of}
use Rattle.codec.proofs.Firsts.{none_from_ok}
use Rattle.points.specs.Standing.{no_row}
use Rattle.points.proofs.Lots.{tables_proper}
use Rattle.asking.specs.declared.Desk.{Desk}
use Rattle.asking.specs.declared.Outcome.{Outcome}
use Rattle.asking.specs.Ended.{no_room}
use Rattle.asking.specs.Asking.{Asking, Resting, at_rest}
use Rattle.asking.proofs.Begin.{room_there, over_filled, fresh, asking_begins, behind_begins}
use Rattle.asking.proofs.Loops.{resting_since}
use Rattle.asking.proofs.Finish.{asks_are, placed_are, told_are, benches_are}
use Rattle.asking.proofs.Found.{length_rows_found}
use Rattle.asking.proofs.Fairness.{fair}
use Rattle.asking.proofs.run.Goals as goal

same_outcome : (a b p q : ℕ) → a ≡ b → p ≡ q → ◌≡◌ {A = Result Outcome Refusal} (Ok (record { asks = a; placed = p })) (Ok (record { asks = b; placed = q }))
same_outcome a b p q e f = rw (e, f)

-- the front of the results and of the benches is filled
module _ (t : Tables) (ok : Proper t) (desk : Desk) (part bench_part : List ℕ)
    (accepted : no_room t (length desk.results.now) (length desk.benches.now) (length desk.rows.now) ≡ None)
    (is_part : part ≡ replicate (length (take (applicants t - 0) desk.results.now)) 0)
    (is_bench_part : bench_part ≡ replicate (length (take (get_or t.seats (workshops t) 0 - 0) desk.benches.now)) no_row) where
  abbrev results : List ℕ
  results = part ++ drop (applicants t - 0) desk.results.now

  abbrev benches : List ℕ
  benches = bench_part ++ drop (get_or t.seats (workshops t) 0 - 0) desk.benches.now

  room_results : applicants t ≤ length desk.results.now
  room_results = (room_there t _ _ _ accepted).0

  room_benches : get_or t.seats (workshops t) 0 ≤ length desk.benches.now
  room_benches = (room_there t _ _ _ accepted).1

  results_filled : results ≡ over (replicate (applicants t) 0) desk.results.now
  results_filled = over_filled 0 (applicants t) desk.results.now part room_results is_part

  benches_filled : benches ≡ over (replicate (get_or t.seats (workshops t) 0) no_row) desk.benches.now
  benches_filled = over_filled no_row (get_or t.seats (workshops t) 0) desk.benches.now bench_part room_benches is_bench_part

  begins : Asking t (at_rest t results) results benches
  begins = asking_begins t ok _ _ _ _ room_results room_benches results_filled benches_filled

  none_asked : (c : ℕ) → c < applicants t → get_or results c 0 ≡ 0
  none_asked = fresh t ok _ _ _ _ room_results room_benches results_filled benches_filled

  ends : (last_results last_benches : List ℕ) (asks : ℕ) → Resting t last_results last_benches results benches (applicants t) asks →
      Resting t last_results last_benches desk.results.now desk.benches.now (applicants t) asks
  ends last_results last_benches asks rest =
      resting_since t ok last_results last_benches _ _ _ _ (applicants t) asks rest
      (behind_begins t ok _ _ _ _ room_results room_benches results_filled benches_filled)

pub returns-in_err-room-clause-fair : goal.returns-in_err-room-clause-fair
returns-in_err-room-clause-fair c = fair _ (tables_proper c.args.round.now)

pub returns-in_err-find_rows-clause-fair : goal.returns-in_err-find_rows-clause-fair
returns-in_err-find_rows-clause-fair c = fair _ (tables_proper c.args.round.now)

pub ask_all-asks-requires : goal.ask_all-asks-requires
ask_all-asks-requires c =
    let accepted : no_room (tables_of c.args.round.now) (length c.args.desk.now.results.now) (length c.args.desk.now.benches.now) (length c.args.desk.now.rows.now) ≡ None =
    rw (c.left.ensures.results, c.left.ensures.benches, c.left.ensures.rows) at (none_from_ok _ _ _ c.in_ok-room.ensures).0 in
    record {
      found = ap (take _) c.in_ok-find_rows.ensures.rows ∙ take_at _ _ _ (length_rows_found _ (tables_proper c.args.round.now));
      asking = begins _ (tables_proper c.args.round.now) c.args.desk.now c.fill.new.self c.fill-2.new.self accepted (c.fill.ensures.after (λ y e. e)) (c.fill-2.ensures.after (λ y e. e));
      fresh = none_asked _ (tables_proper c.args.round.now) c.args.desk.now c.fill.new.self c.fill-2.new.self accepted (c.fill.ensures.after (λ y e. e)) (c.fill-2.ensures.after (λ y e. e));
    }

pub returns : goal.returns
returns c =
    let accepted : no_room (tables_of c.args.round.now) (length c.args.desk.now.results.now) (length c.args.desk.now.benches.now) (length c.args.desk.now.rows.now) ≡ None =
    rw (c.left.ensures.results, c.left.ensures.benches, c.left.ensures.rows) at (none_from_ok _ _ _ c.in_ok-room.ensures).0 in
    let rest = ends _ (tables_proper c.args.round.now) c.args.desk.now c.fill.new.self c.fill-2.new.self accepted (c.fill.ensures.after (λ y e. e)) (c.fill-2.ensures.after (λ y e. e)) _ _ _ c.ask_all-asks.ensures.rested in
    record {
      value =
          rw accepted
          (same_outcome _ _ _ _ (asks_are _ (tables_proper c.args.round.now) _ _ _ _ _ rest) (c.tell-placed.ensures.placed ∙ placed_are _ (tables_proper c.args.round.now) _ _ _ _ _ rest));
      rows = c.ask_all-asks.ensures.rows ∙ c.in_ok-find_rows.ensures.rows;
      results = c.tell-placed.ensures.results ∙ told_are _ (tables_proper c.args.round.now) _ _ _ _ _ rest;
      benches = benches_are _ (tables_proper c.args.round.now) _ _ _ _ _ rest;
      same = let same = c.ask_all-asks.ensures.same in record { rows = same.rows; results = same.results; benches = same.benches };
      fair = fair _ (tables_proper c.args.round.now);
    }
