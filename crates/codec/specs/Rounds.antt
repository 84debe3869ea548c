-- The tables that a read round holds. Definitions only.
use Rattle.layout.specs.Tables.{Tables, tables}
use Rattle.codec.specs.declared.tables.Round.{Round}

abbrev pub tables_of : Round → Tables
tables_of r =
    tables r.seats.now r.lots.now r.starts.now r.entries.now r.row_starts.now r.row_applicants.now r.row_points.now
