-- A read round's tables are proper; lots are small enough for worths to order by them.
use Rattle.std.proofs.Common.{◌≡◌, ℕ, ◌<◌, ◌≤◌, false, eqb, ltb, refl, arith}
use Rattle.std.specs.Ordering.{nat_cmp, is_gt}
use Rattle.std.proofs.lemmas.List.{get_or_past}
use Rattle.std.proofs.lemmas.Bool.{cond_both, ltb-true}
use Rattle.std.proofs.lemmas.Bool.Decides.{nat_tests}
use Rattle.round.specs.ByPoints.{worth_of}
use Rattle.layout.specs.Tables.{Tables, Proper, rows}
pub use Rattle.codec.proofs.Rounds.{proper_round as tables_proper}
use Rattle.points.specs.Standing.{lot_of_row, row_worth, no_row}

pub lot_small : (t : Tables) → Proper t → (i : ℕ) → lot_of_row t i < 65536
lot_small t good i =
    cond_both (ltb i (rows t)) _ 0 (λ x. x < 65536) (λ e. good.drawn _ (good.rowed.1 i (ltb-true i (rows t) e))) (λ e. omega arith)

-- of two with different points the lots do not matter
pub more_points : (p q l k : ℕ) → l < 65536 → k < 65536 → eqb p q ≡ false → is_gt (nat_cmp p q) ≡ ltb (worth_of q k) (worth_of p l)
unfolding worth_of
more_points p q l k hl hk ne = grind (arith, nat_tests)

-- a number that is no row is worth nothing
pub row_worth_past : (t : Tables) → Proper t → (i : ℕ) → rows t ≤ i → row_worth t i ≡ 0
unfolding row_worth worth_of
row_worth_past t good i h = rw (get_or_past t.row_points i 0 (omega (arith, good.rowed.0))) refl

pub row_worth_no_row : (t : Tables) → Proper t → row_worth t no_row ≡ 0
row_worth_no_row t good = row_worth_past t good no_row (omega (arith, good.limited.3))
