-- A round is proper: its type says so. And tables that are the same as proper ones are proper.
use Rattle.std.proofs.Common.{◌≡◌}
use Rattle.layout.specs.Tables.{Tables, Proper}
use Rattle.codec.specs.Rounds.{tables_of}
use Rattle.codec.specs.declared.tables.Round.{Round}

pub proper_round : (r : Round) → Proper (tables_of r)
proper_round r = r.proper

-- tables that are the same as proper ones are proper
pub proper_like : (t u : Tables) → u ≡ t → Proper t → Proper u
proper_like t u same p = rw same p
