-- The round of proper tables is proper, and so its market is lawful.
use Rattle.layout.specs.Tables.{Tables, Proper}
use Rattle.round.specs.Market.{Lawful}
use Rattle.round.proofs.Ranks.{market_lawful}
use Rattle.points.specs.Standing.{round_of, market}
pub use Rattle.points.proofs.Theory.{round_proper}

module _ (t : Tables) (ok : Proper t) where
  pub lawful : Lawful (market t)
  unfolding market
  lawful = market_lawful (round_of t) (round_proper t ok)
