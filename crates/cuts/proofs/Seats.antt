-- The last seat of a bench, and the cut that it makes: whoever sits on the bench reaches it, and whoever is worth less than all who
-- sit there does not.
use Rattle.std.proofs.Common.{◌≡◌, ℕ, zero, suc, ◌-◌, ◌<◌, ◌≤◌, Bool, true, false, ◌≢◌, List, [], ◌∷◌, length, get_or, refl, ap, inl, inr, arith}
use Rattle.std.proofs.lemmas.Bool.{cases_eq, cases_lt, cases_Bool, lt-ltb, false≢true}
use Rattle.std.proofs.lemmas.Bool.Decides.{nat_tests}
use Rattle.layout.specs.Tables.{Tables, has}
use Rattle.round.specs.ByPoints.{worth_of}
use Rattle.points.specs.Standing.{no_row, points_of_row, lot_of_row, row_worth}
use Rattle.bench.specs.Best.{number, above, BestFirst}
use Rattle.bench.proofs.Numbers.{has_here, has_there, has_cases, number_less}
use Rattle.cuts.specs.Cuts.{cut_of_bench, reached}
use Rattle.cuts.specs.declared.Cut.{Cut}
use Rattle.cuts.specs.declared.Cut.TheVariants.{Open, Shut, Full}

-- who has the last seat
abbrev pub last : List ℕ → ℕ
last b = get_or b (length b - 1) 0

pub has_get_d : (b : List ℕ) (i : ℕ) → i < length b → has (get_or b i 0) b ≡ true
has_get_d [] i h = absurd (omega arith)
has_get_d (y ∷ ys) zero h = has_here y ys
has_get_d (y ∷ ys) (suc i) h = has_there (get_or ys i 0) y ys (has_get_d ys i (omega arith))

last_more : (y z : ℕ) (zs : List ℕ) → last (y ∷ z ∷ zs) ≡ last (z ∷ zs)
last_more y z zs = let e : length (y ∷ z ∷ zs) - 1 ≡ suc (length (z ∷ zs) - 1) = omega arith in rw e

-- is worth least
pub last_least : (v : ℕ → ℕ) (b : List ℕ) → BestFirst v b → (x : ℕ) → has x b ≡ true → v (last b) ≤ v x
unfolding BestFirst has
last_least v [] sorted x h = absurd (false≢true h)
last_least v (y ∷ []) sorted x h = elim (has_cases x y [] h) [ inl e ↦ rw e (omega arith) | inr m ↦ absurd (false≢true m) ]
last_least v (y ∷ z ∷ zs) sorted x h =
    rw (last_more y z zs)
    (elim (has_cases x y (z ∷ zs) h) [
      | inl e ↦
          let below = last_least v (z ∷ zs) sorted.1 z (has_here z zs) in
          elim (sorted.0 z (has_here z zs)) [ inl lt ↦ omega (arith, ap v e) | inr same ↦ omega (arith, ap v e, ap v same) ]
      | inr m ↦ last_least v (z ∷ zs) sorted.1 x m
    ])

pub has_last : (b : List ℕ) → 0 < length b → has (last b) b ≡ true
has_last b h = has_get_d b (length b - 1) (omega arith)

-- where all seats pass a test, the last does
pub last_passes : (p : ℕ → Bool) (b : List ℕ) → 0 < length b → number p b ≡ length b → p (last b) ≡ true
last_passes p b h all =
    elim (cases_Bool (p (last b))) [ inl e ↦ e | inr f ↦ absurd (omega (arith, number_less p (last b) b (has_last b h) f)) ]

-- no bench, an empty last seat, and somebody on it
pub cut_none : (t : Tables) (b : List ℕ) → length b ≡ 0 → cut_of_bench t b ≡ Shut
cut_none t b h = grind (arith, nat_tests)

pub cut_empty : (t : Tables) (b : List ℕ) → 0 < length b → last b ≡ no_row → cut_of_bench t b ≡ Open
cut_empty t b h e = grind (arith, nat_tests)

pub cut_seated : (t : Tables) (b : List ℕ) → 0 < length b → last b ≢ no_row →
    cut_of_bench t b ≡ Full (record { 0 = points_of_row t (last b) }) (record { 0 = lot_of_row t (last b) })
cut_seated t b h e = grind (arith, nat_tests)

-- nobody without points reaches a cut
pub unreached_without : (points lot : ℕ) (cut : Cut) → points ≡ 0 → reached (record { 0 = points }) (record { 0 = lot }) cut ≡ false
unreached_without points lot Open e = grind (arith, nat_tests)
unreached_without points lot Shut e = refl
unreached_without points lot (Full least last) e = grind (arith, nat_tests)

module _ (t : Tables) (b : List ℕ) (points lot : ℕ) where
  -- whoever has points and is worth as much as the last seat reaches the cut
  pub reached_from_last : 0 < length b → 0 < points → row_worth t (last b) ≤ worth_of points lot → reached (record { 0 = points }) (record { 0 = lot }) (cut_of_bench t b) ≡ true
  unfolding row_worth
  reached_from_last h some le =
      elim (cases_eq (last b) no_row) [
        | inl e ↦ rw (cut_empty t b h e) (lt-ltb 0 points some)
        | inr ne ↦ rw (cut_seated t b h ne) (grind (arith, nat_tests))
      ]

  -- and whoever is worth less than somebody in the last seat does not
  pub unreached_from_last : (0 < length b → (last b ≢ no_row) × (worth_of points lot < row_worth t (last b))) → reached (record { 0 = points }) (record { 0 = lot }) (cut_of_bench t b) ≡ false
  unfolding row_worth
  unreached_from_last above =
      elim (cases_lt 0 (length b)) [
        | inr le ↦ rw (cut_none t b (omega arith)) refl
        | inl h ↦ rw (cut_seated t b h (above h).0) (let lt = (above h).1 in grind (arith, nat_tests))
      ]
