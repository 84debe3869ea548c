-- The tables that a round in owned memory holds. Definitions only.
use Rattle.std.specs.Prelude.{vec_items}
use Rattle.layout.specs.Tables.{Tables, tables}
use Rattle.office.specs.declared.owned.OwnedRound.{OwnedRound}

abbrev pub tables_owned : OwnedRound → Tables
tables_owned o =
    tables
    (vec_items o.seats)
    (vec_items o.lots)
    (vec_items o.starts)
    (vec_items o.entries)
    (vec_items o.row_starts)
    (vec_items o.row_applicants)
    (vec_items o.row_points)
