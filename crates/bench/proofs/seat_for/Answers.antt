-- The last row goes behind, so it is one more that does than in front of it, and the seat lies that many before the end.
use Rattle.std.proofs.Common.{◌≡◌, ℕ, ◌-◌, true, ltb, List, length, get_or, take, ap, arith}
use Rattle.std.specs.List.{suffix_len}
use Rattle.std.proofs.lemmas.List.{take_all, length-take-le}
use Rattle.std.proofs.lemmas.List.Sums.{suffix_len-le-length, suffix_len-take_yes}
use Rattle.codec.specs.Rounds.{tables_of}
use Rattle.points.specs.Standing.{row_worth}
use Rattle.bench.proofs.seat_for.Goals as goal

pub overflow_sub-result : goal.overflow_sub-result
overflow_sub-result c =
    let v : ℕ → ℕ = row_worth (tables_of c.args.round.now) in
    omega (arith, c.behind.ensures, suffix_len-le-length (λ y. ltb (v y) (v c.args.row)) (take (length c.args.bench.now - 1) c.args.bench.now))

pub returns : goal.returns
returns c =
    let v : ℕ → ℕ = row_worth (tables_of c.args.round.now) in
    let bench : List ℕ = c.args.bench.now in
    let front : List ℕ = take (length bench - 1) bench in
    let ahead : ltb (v (get_or bench (length bench - 1) 0)) (v c.args.row) ≡ true = cc in
    let within = suffix_len-le-length (λ y. ltb (v y) (v c.args.row)) front in
    let one_more = suffix_len-take_yes (λ y. ltb (v y) (v c.args.row)) bench (length bench) 0 (omega arith) (omega arith) ahead in
    let whole = ap (λ (ys : List ℕ). suffix_len (λ y. ltb (v y) (v c.args.row)) ys) (take_all (length bench) bench (omega arith)) in
    (omega arith, omega (arith, c.behind.ensures, length-take-le (length bench - 1) bench (omega arith)))
