-- The tables that a settled round holds. Definitions only.
use Rattle.layout.specs.Tables.{Tables}
use Rattle.office.specs.Owned.{tables_owned}
use Rattle.office.specs.declared.settled.Settled.{Settled}

abbrev pub tables_settled : Settled → Tables
tables_settled s = tables_owned s.held
