-- Whether an assignment is stable can be computed; so the judged assignments of the worked rounds are told apart.
use Rattle.std.proofs.Common.{◌≡◌, ℕ, zero, suc, ◌<◌, ◌≤◌, Bool, true, false, not, ◌&&◌, ◌||◌, eqb, ltb, leb, List, [], ◌∷◌, map, length, get_or, Decides, refl, ap, inl, inr, arith}
use lib.ListN.{get_or-eq_default}
use Rattle.std.specs.List.{AllByRecursion}
use Rattle.std.proofs.lemmas.Bool.{leb-true, le-leb, false≢true, cases_lt}
use Rattle.std.proofs.lemmas.Bool.Decides.{Decides-at, Decides-like, Decides-and, Decides-or, Decides-ltb, Decides-eqb, Decides-below_and}
use Rattle.round.specs.Places.{Round, point, nowhere}
use Rattle.round.specs.Promise.{Distinct, Proper, Stable, rank, given}
use Rattle.round.specs.ByPoints.{worth_of}
use Rattle.round.specs.Rounds.{worths, round_of, round_a, round_a1, round_b, round_c, round_d, round_e, round_f, assignment, Judged, judged, ToldApart, Worked, worked, AllProper}

-- all below n pass the test
all_below : (ℕ → Bool) → ℕ → Bool
all_below f zero = true
all_below f (suc n) = f n && all_below f n

decides_all : (f : ℕ → Bool) (P : ℕ → Type 0) → ((k : ℕ) → Decides (f k) (P k)) → (n : ℕ) → Decides (all_below f n) ((k : ℕ) → k < n → P k)
unfolding all_below
decides_all f P each n = Decides-below_and f P (all_below f) each refl (λ _. refl) n

decides_leb : (a b : ℕ) → Decides (leb a b) (a ≤ b)
decides_leb a b = (leb-true a b, le-leb a b)

decides_if : {P Q : Type 0} (x y : Bool) → Decides x P → Decides y Q → Decides (not x || y) (P → Q)
decides_if true y dx dy = (λ t _. dy.0 t, λ f. dy.1 (f (dx.0 refl)))
decides_if false y dx dy = (λ _ p. absurd (false≢true (dx.1 p)), λ _. refl)

module _ (r : Round) (m : ℕ → ℕ) where
  own? : ℕ → Bool
  own? a = eqb (m a) (nowhere r) || (ltb (rank (get_or r.lists a []) (m a)) (length (get_or r.lists a [])) && ltb 0 (point r (m a) a))

  room? : ℕ → Bool
  room? p = leb (given m p (length r.lists)) (get_or r.places p 0)

  pair? : ℕ → ℕ → Bool
  pair? a p =
      not (ltb 0 (point r p a))
      || (not (ltb (rank (get_or r.lists a []) p) (rank (get_or r.lists a []) (m a)))
      || (leb (get_or r.places p 0) (given m p (length r.lists)) && all_below (λ b. not (eqb (m b) p) || ltb (point r p a) (point r p b)) (length r.lists)))

  stable? : Bool
  stable? =
      all_below own? (length r.lists)
      && (all_below room? (length r.places) && all_below (λ a. all_below (pair? a) (length r.places)) (length r.lists))

  decides_stable : Decides stable? (Stable r m)
  unfolding stable? own? room? pair?
  decides_stable =
      Decides-like _ (λ s. record { own = s.0; room = s.1.0; no_pair = λ a p la. s.1.1 a la p }) (λ s. (s.own, (s.room, λ a la p. s.no_pair a p la)))
      (Decides-and _ _
      (decides_all _ _ (λ a. Decides-or _ _ (Decides-eqb (m a) (nowhere r)) (Decides-and _ _ (Decides-ltb _ _) (Decides-ltb _ _))) _)
      (Decides-and _ _ (decides_all _ _ (λ p. decides_leb _ _) _)
      (decides_all _ _
      (λ a.
      decides_all _ _
      (λ p.
      decides_if _ _ (Decides-ltb _ _)
      (decides_if _ _ (Decides-ltb _ _)
      (Decides-and _ _ (decides_leb _ _) (decides_all _ _ (λ b. decides_if _ _ (Decides-eqb (m b) p) (Decides-ltb (point r p a) (point r p b))) _))))
      _)
      _)))

module _ (r : Round) where
  list? : ℕ → Bool
  list? a =
      all_below
      (λ j. all_below (λ k. not (eqb (get_or (get_or r.lists a []) j 0) (get_or (get_or r.lists a []) k 0)) || eqb j k) (length (get_or r.lists a [])))
      (length (get_or r.lists a []))
      && all_below (λ j. ltb (get_or (get_or r.lists a []) j (length r.places)) (length r.places)) (length (get_or r.lists a []))

  points? : ℕ → Bool
  points? p =
      all_below
      (λ a. all_below (λ b. not (ltb 0 (point r p a)) || (not (eqb (point r p a) (point r p b)) || eqb a b)) (length r.lists))
      (length r.lists)

  proper? : Bool
  proper? = all_below list? (length r.lists) && all_below points? (length r.points)

  decides_list : (a : ℕ) → Decides (list? a) (Distinct (length r.places) (get_or r.lists a []))
  unfolding list? Distinct
  decides_list a =
      Decides-and _ _
      (Decides-like _ (λ s j k lj. s j lj k) (λ s j lj k. s j k lj)
      (decides_all _ _ (λ j. decides_all _ _ (λ k. decides_if _ _ (Decides-eqb _ _) (Decides-eqb j k)) _) _))
      (decides_all _ _ (λ j. Decides-ltb _ _) _)

  decides_points : (p : ℕ) → Decides (points? p) ((a : ℕ) → a < length r.lists → (b : ℕ) → b < length r.lists → 0 < point r p a → point r p a ≡ point r p b → a ≡ b)
  unfolding points?
  decides_points p =
      decides_all _ _
      (λ a. decides_all _ _ (λ b. decides_if _ _ (Decides-ltb 0 (point r p a)) (decides_if _ _ (Decides-eqb (point r p a) (point r p b)) (Decides-eqb a b))) _)
      _

  -- beyond the rows nobody has points
  decides_proper : Decides proper? (Proper r)
  unfolding proper? point
  decides_proper =
      Decides-like _ (λ s. record { lists = s.0; points = λ p a b la lb some e. points p (s.1 p) a la b lb some e }) (λ ok. (ok.lists, λ p _ a la b. ok.points p a b la))
      (Decides-and _ _ (decides_all _ _ decides_list _) (decides_all _ _ decides_points _))
    where
      points : (p : ℕ) → (p < length r.points → (a : ℕ) → a < length r.lists → (b : ℕ) → b < length r.lists → 0 < point r p a → point r p a ≡ point r p b → a ≡ b) →
          (a : ℕ) → a < length r.lists → (b : ℕ) → b < length r.lists → 0 < point r p a → point r p a ≡ point r p b → a ≡ b
      points p s a la b lb some e =
          elim (cases_lt p (length r.points)) [
            | inl l ↦ s l a la b lb some e
            | inr l ↦ let z = ap {B = ℕ} (λ (row : List ℕ). get_or row a 0) (get_or-eq_default r.points [] l) in absurd (omega arith)
          ]

-- whether a judged assignment is stable, computed
judge : Judged → Bool
judge j = stable? j.round (assignment j.round j.gets)

told_from : (js : List Judged) → map (λ j. j.stable) js ≡ map judge js → AllByRecursion (λ j. Decides j.stable (Stable j.round (assignment j.round j.gets))) js
unfolding judge
told_from [] e = tt
told_from (j ∷ js) e = (Decides-at j.stable _ (cc) (decides_stable j.round (assignment j.round j.gets)), told_from js (cc))

pub told_apart : ToldApart
unfolding ToldApart judged judge stable? own? room? pair? all_below assignment worths round_of round_a round_b round_c round_d round_e round_f worth_of given rank nowhere point
told_apart = told_from judged refl

proper_from : (ws : List Worked) → map (λ w. proper? w.round) ws ≡ map (λ _. true) ws → AllByRecursion (λ w. Proper w.round) ws
proper_from [] e = tt
proper_from (w ∷ ws) e = ((decides_proper w.round).0 (cc), proper_from ws (cc))

pub all_proper : AllProper
unfolding AllProper worked proper? list? points? all_below worths round_of round_a round_a1 round_b round_c round_d round_e round_f worth_of point
all_proper = proper_from worked refl
