-- A worth orders by points first and then by the lower lot: what `worth_of` says in the words of points and lots.
use Rattle.std.proofs.Common.{◌≡◌, ℕ, ◌<◌, ◌⊎◌, refl, inl, inr, arith}
use Rattle.std.proofs.lemmas.Bool.Decides.{nat_tests}
use Rattle.round.specs.ByPoints.{worth_of}
use Rattle.round.specs.Office.{ByPoints}
use Rattle.round.specs.Cuts.{points_in, lot_in}

-- those with points have a worth, and only they
pub worth_above : (p l : ℕ) → 0 < p → 0 < worth_of p l
unfolding worth_of
worth_above p l h = grind (arith, nat_tests)

pub points_above : (p l : ℕ) → 0 < worth_of p l → 0 < p
unfolding worth_of
points_above p l h = grind (arith, nat_tests)

-- more points, or as many and the lower lot, are worth more
pub worth_below : (p q l k : ℕ) → l < 65536 → k < 65536 → 0 < q → (p < q) ⊎ ((p ≡ q) × (k < l)) → worth_of p l < worth_of q k
unfolding worth_of
worth_below p q l k hl hk hq (inl h) = grind (arith, nat_tests)
worth_below p q l k hl hk hq (inr h) = grind (arith, nat_tests)

-- and nothing else is
pub points_below : (p q l k : ℕ) → l < 65536 → k < 65536 → worth_of p l < worth_of q k → (p < q) ⊎ ((p ≡ q) × (k < l))
unfolding worth_of
points_below p q l k hl hk h = grind (arith, nat_tests)

-- equal worths are of equal points and lots
pub same_points : (p q l k : ℕ) → l < 65536 → k < 65536 → 0 < worth_of p l → worth_of p l ≡ worth_of q k → (p ≡ q) × (l ≡ k)
unfolding worth_of
same_points p q l k hl hk h e = grind (arith, nat_tests)

-- a worth's points and lot can be read off it
pub points_in_worth : (p l : ℕ) → 0 < p → l < 65536 → points_in (worth_of p l) ≡ p
unfolding worth_of points_in
points_in_worth p l hp hl = grind (arith, nat_tests)

pub lot_in_worth : (p l : ℕ) → 0 < p → l < 65536 → lot_in (worth_of p l) ≡ l
unfolding worth_of lot_in
lot_in_worth p l hp hl = grind (arith, nat_tests)

pub by_points : ByPoints
unfolding ByPoints worth_of
by_points p q l k hl hk hq = (
  points_below p q l k hl hk,
  worth_below p q l k hl hk hq,
  λ e. same_points p q l k hl hk (rw e (worth_above q k hq)) e,
  worth_above q k hq,
  refl,
)
