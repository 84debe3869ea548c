-- A part from 0 on is the front.
use Rattle.std.proofs.Common.{◌≡◌, ℕ, ◌+◌, ◌-◌, List, take, arith}
use Rattle.layout.specs.Tables.{tables}
use Rattle.layout.specs.declared.Sizes.{Sizes}
use Rattle.codec.specs.Fronts.{fronts}
use Rattle.codec.proofs.Rounds.{proper_like}
use Rattle.codec.proofs.tables.Round.over.Goals as goal

none_off : (n : ℕ) → n - 0 ≡ n
none_off n = omega arith

same : (s : Sizes) (a b c d e f g : List ℕ) →
    tables (take (s.workshops + 1 - 0) a) (take (s.applicants - 0) b) (take (s.applicants + 1 - 0) c) (take (s.entries - 0) d) (take (s.workshops + 1 - 0) e) (take (s.rows - 0) f) (take (s.rows - 0) g)
    ≡ fronts s a b c d e f g
same s a b c d e f g =
    λ i. tables
    (take (none_off (s.workshops + 1) i) a)
    (take (none_off s.applicants i) b)
    (take (none_off (s.applicants + 1) i) c)
    (take (none_off s.entries i) d)
    (take (none_off (s.workshops + 1) i) e)
    (take (none_off s.rows i) f)
    (take (none_off s.rows i) g)

pub invariant_of-result : goal.invariant_of-result
invariant_of-result c =
    record {
      proper =
          proper_like _ _
          (same c.args.sizes c.args.seats.now c.args.lots.now c.args.starts.now c.args.entries.now c.args.row_starts.now c.args.row_applicants.now c.args.row_points.now)
          c.requires.proper;
    }

pub returns : goal.returns
returns c = same c.args.sizes c.args.seats.now c.args.lots.now c.args.starts.now c.args.entries.now c.args.row_starts.now c.args.row_applicants.now c.args.row_points.now
