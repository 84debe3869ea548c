-- A bench that holds the best of some holds the best of them and the asker after an ask; and what a bench holds is settled by who
-- has asked, whatever the order.
use Rattle.std.proofs.Common.{◌≡◌, ℕ, zero, suc, ◌-◌, ◌<◌, ◌≤◌, min, Bool, true, false, cond, eqb, ltb, ◌≢◌, ◌⊎◌, List, [], ◌∷◌, ◌++◌, length, Decides, sym, refl, ap, ◌∙◌, subst, inl, inr, arith}
use Rattle.std.proofs.lemmas.List.{append-nil}
use Rattle.std.proofs.lemmas.Bool.{cases_eq, cases_lt, ne_eqb, false≢true, le-ltb, lt-ltb, ltb-true, ltb-false}
use Rattle.std.proofs.lemmas.Bool.Decides.{nat_tests}
use Rattle.layout.specs.Tables.{has}
use Rattle.points.specs.Standing.{no_row}
use Rattle.bench.specs.Row.{after, taken_in, after_all, empty_bench}
use Rattle.bench.specs.Best.{number, above, BestFirst, ToldApart, BestOf}
use Rattle.bench.proofs.Numbers.{has_here, has_there, has_cases, number_less, number_none, number_more, number_between, number_middle, has_same, has_right, has_number, number_has}
use Rattle.bench.proofs.Laws.{length_after, number_after, has_after, after_worthless, above_head, above_after, sorted_after, taken_in_after}

pub has_empty : (z k : ℕ) → has z (empty_bench k) ≡ true → z ≡ no_row
unfolding empty_bench has
has_empty z zero h = absurd (false≢true h)
has_empty z (suc k) h = elim (has_cases z no_row (empty_bench k) h) [ inl e ↦ e | inr m ↦ has_empty z k m ]

abbrev Known : (ℕ → ℕ) → List ℕ → ℕ → Type 0
Known v xs z = (z ≡ no_row) ⊎ ((has z xs ≡ true) × (0 < v z))

module _ (v : ℕ → ℕ) (none : v no_row ≡ 0) where
  -- who sits there follows from how many are worth more
  kept_from : (xs b : List ℕ) → ToldApart v xs → ((x : ℕ) → x ≢ no_row → number (eqb x) b ≤ number (eqb x) xs) →
      ((x : ℕ) → x ≢ no_row → has x b ≡ true → 0 < v x) → ((u : ℕ) → above v u b ≡ min (length b) (above v u xs)) →
      (x : ℕ) → x ≢ no_row → Decides (has x b) ((has x xs ≡ true) × (0 < v x) × (above v (v x) xs < length b))
  kept_from xs b apart once worth many x row = (
    λ h. (
      has_number x xs (omega (arith, once x row, number_has x b h)),
      worth x row h,
      omega (arith, many (v x), number_less (λ z. ltb (v x) (v z)) x b h (le-ltb (v x) (v x) (omega arith))),
    ),
    λ h. back h.0 h.1 h.2,
  )
    where
      back : has x xs ≡ true → 0 < v x → above v (v x) xs < length b → has x b ≡ true
      back m pos few =
          let more =
          number_more (λ z. ltb (v x) (v z)) (λ z. ltb (v x - 1) (v z))
          (λ z h. lt-ltb (v x - 1) (v z) (omega (arith, ltb-true (v x) (v z) h)))
          x xs m (le-ltb (v x) (v x) (omega arith)) (lt-ltb (v x - 1) (v x) (omega arith))
          in
          let found : (y : ℕ) × (has y b ≡ true) × (ltb (v x) (v y) ≡ false) × (ltb (v x - 1) (v y) ≡ true) =
          number_between (λ z. ltb (v x) (v z)) (λ z. ltb (v x - 1) (v z)) b (omega (arith, many (v x), many (v x - 1), more))
          in
          let level : v x ≡ v found.0 = omega (arith, ltb-false (v x) (v found.0) found.2, ltb-true (v x - 1) (v found.0) found.3) in
          let seated : found.0 ≢ no_row = λ e. omega (arith, ap v e) in
          let asked = has_number found.0 xs (omega (arith, once found.0 seated, number_has found.0 b found.1)) in
          rw (apart x found.0 m asked pos level) found.1

  -- whoever sits there is nobody, or has asked and has points; among these the worth tells apart
  known_seated : (xs b : List ℕ) → BestOf v xs b → (z : ℕ) → has z b ≡ true → Known v xs z
  known_seated xs b best z h = elim (cases_eq z no_row) [ inl e ↦ inl e | inr row ↦ inr (((best.kept z row).0 h).0, ((best.kept z row).0 h).1) ]

  known_same : (xs : List ℕ) → ToldApart v xs → (y z : ℕ) → Known v xs y → Known v xs z → v y ≡ v z → y ≡ z
  known_same xs apart y z (inl ey) (inl ez) e = ey ∙ sym ez
  known_same xs apart y z (inl ey) (inr kz) e = absurd (omega (arith, ap v ey, kz.1))
  known_same xs apart y z (inr ky) (inl ez) e = absurd (omega (arith, ap v ez, ky.1))
  known_same xs apart y z (inr ky) (inr kz) e = apart y z ky.0 kz.0 ky.1 e

  -- at first
  sorted_empty : (k : ℕ) → BestFirst v (empty_bench k)
  unfolding empty_bench BestFirst
  sorted_empty zero = tt
  sorted_empty (suc k) = (λ z h. inr (has_empty z k h), sorted_empty k)

  pub best_of_empty : (k : ℕ) → BestOf v [] (empty_bench k)
  unfolding number has
  best_of_empty k =
      let none_above : (u : ℕ) → above v u (empty_bench k) ≡ 0 =
      λ u. number_none (λ z. ltb u (v z)) (empty_bench k) (λ z h. le-ltb u (v z) (omega (arith, ap v (has_empty z k h))))
      in
      let none_there : (x : ℕ) → x ≢ no_row → number (eqb x) (empty_bench k) ≡ 0 =
      λ x row. number_none (eqb x) (empty_bench k) (λ z h. ne_eqb x z (λ e. row (e ∙ has_empty z k h)))
      in
      let once : (x : ℕ) → x ≢ no_row → number (eqb x) (empty_bench k) ≤ number (eqb x) [] = λ x row. omega (arith, none_there x row) in
      let many : (u : ℕ) → above v u (empty_bench k) ≡ min (length (empty_bench k)) (above v u []) = λ u. omega (arith, none_above u) in
      record {
        sorted = sorted_empty k;
        once = once;
        kept = kept_from [] (empty_bench k) (λ x y h. absurd (false≢true h)) once (λ x row h. absurd (row (has_empty x k h))) many;
        many = many;
      }

  -- one more asks
  pub best_of_after : (x : ℕ) (xs b : List ℕ) → ToldApart v (x ∷ xs) → BestOf v xs b → BestOf v (x ∷ xs) (after v x b)
  unfolding number
  best_of_after x xs b apart best =
      let once : (z : ℕ) → z ≢ no_row → number (eqb z) (after v x b) ≤ number (eqb z) (x ∷ xs) =
      λ z row. omega (arith, number_after v (eqb z) x b, best.once z row)
      in
      let many : (u : ℕ) → above v u (after v x b) ≡ min (length (after v x b)) (above v u (x ∷ xs)) =
      λ u. omega (arith, above_after v u x b best.sorted, best.many u, length_after v x b)
      in
      record {
        sorted = elim (cases_lt 0 (v x)) [ inl pos ↦ sorted_after v x b (told pos) best.sorted | inr worthless ↦ rw (after_worthless v x b (omega arith)) best.sorted ];
        once = once;
        kept = kept_from (x ∷ xs) (after v x b) apart once worth many;
        many = many;
      }
    where
      worth : (z : ℕ) → z ≢ no_row → has z (after v x b) ≡ true → 0 < v z
      worth z row h =
          elim (cases_lt 0 (v x)) [
            | inl pos ↦ (elim (has_after v z x b h) [ inl e ↦ omega (arith, ap v e) | inr m ↦ ((best.kept z row).0 m).1 ])
            | inr worthless ↦ ((best.kept z row).0 (rw (after_worthless v x b (omega arith)) at h)).1
          ]

      known : 0 < v x → (z : ℕ) → has z (x ∷ b) ≡ true → Known v (x ∷ xs) z
      known pos z h =
          elim (has_cases z x b h) [
            | inl e ↦ inr (rw e (has_here x xs), omega (arith, ap v e))
            | inr m ↦ (elim (known_seated xs b best z m) [ inl e ↦ inl e | inr k ↦ inr (has_there z x xs k.0, k.1) ])
          ]

      told : 0 < v x → (y z : ℕ) → has y (x ∷ b) ≡ true → has z (x ∷ b) ≡ true → v y ≡ v z → y ≡ z
      told pos y z hy hz = known_same (x ∷ xs) apart y z (known pos y hy) (known pos z hz)

  -- and so it is after an ask as the code does it
  pub best_of_taken_in : (x : ℕ) (b c : List ℕ) → c ≡ taken_in v x b → (xs : List ℕ) → ToldApart v (x ∷ xs) → BestOf v xs b → BestOf v (x ∷ xs) c
  best_of_taken_in x b c e xs apart best = rw (e ∙ taken_in_after v x b best.sorted) (best_of_after x xs b apart best)

  -- who has asked matters, and not in which order
  pub best_of_same : (xs ys b : List ℕ) → ((p : ℕ → Bool) → number p xs ≡ number p ys) → BestOf v xs b → BestOf v ys b
  best_of_same xs ys b same best =
      record {
        sorted = best.sorted;
        once = λ x row. omega (arith, best.once x row, same (eqb x));
        kept =
            λ x row.
            let here = same (λ z. ltb (v x) (v z)) in (
              λ h. (let k = (best.kept x row).0 h in (has_same xs ys same x k.0, k.1, omega arith)),
              λ k. (best.kept x row).1 (has_same ys xs (λ p. sym (same p)) x k.0, k.1, omega (arith, k.2)),
            );
        many = λ u. best.many u ∙ ap (min (length b)) (same (λ z. ltb u (v z)));
      }

  pub best_of_all : (xs ys b : List ℕ) → ToldApart v (xs ++ ys) → BestOf v ys b → BestOf v (xs ++ ys) (after_all v xs b)
  unfolding after_all
  best_of_all [] ys b apart best = best
  best_of_all (x ∷ xs) ys b apart best =
      let wider : (z : ℕ) → has z (x ∷ ys) ≡ true → has z (x ∷ (xs ++ ys)) ≡ true =
      λ z h. elim (has_cases z x ys h) [ inl e ↦ rw e (has_here x (xs ++ ys)) | inr m ↦ has_there z x (xs ++ ys) (has_right z xs ys m) ]
      in
      let moved : (p : ℕ → Bool) → number p (xs ++ x ∷ ys) ≡ number p (x ∷ (xs ++ ys)) = λ p. number_middle p x xs ys in
      let one = best_of_after x ys b (λ y z hy hz. apart y z (wider y hy) (wider z hz)) best in
      let rest =
      best_of_all xs (x ∷ ys) (after v x b)
      (λ y z hy hz. apart y z (has_same (xs ++ x ∷ ys) (x ∷ (xs ++ ys)) moved y hy) (has_same (xs ++ x ∷ ys) (x ∷ (xs ++ ys)) moved z hz)) one
      in
      best_of_same (xs ++ x ∷ ys) (x ∷ (xs ++ ys)) (after_all v xs (after v x b)) moved rest

  pub best_of_after_all : (k : ℕ) (xs : List ℕ) → ToldApart v xs → BestOf v xs (after_all v xs (empty_bench k))
  best_of_after_all k xs apart =
      subst (λ (ys : List ℕ). BestOf v ys (after_all v xs (empty_bench k))) (append-nil xs)
      (best_of_all xs [] (empty_bench k) (rw (append-nil xs) apart) (best_of_empty k))

  -- a bench is settled by the numbers of its seats above each worth
  bench_same : (b c : List ℕ) → length b ≡ length c → BestFirst v b → BestFirst v c → ((y z : ℕ) → has y b ≡ true → has z c ≡ true → v y ≡ v z → y ≡ z) →
      ((u : ℕ) → above v u b ≡ above v u c) → b ≡ c
  unfolding number BestFirst
  bench_same [] [] e sb sc apart same = refl
  bench_same [] (z ∷ zs) e sb sc apart same = absurd (omega arith)
  bench_same (y ∷ ys) [] e sb sc apart same = absurd (omega arith)
  bench_same (y ∷ ys) (z ∷ zs) e sb sc apart same =
      let none_b = above_head v y (v y) ys sb (omega arith) in
      let none_c = above_head v z (v z) zs sc (omega arith) in
      let level : v y ≡ v z = grind (arith, nat_tests, same (v y), same (v z), none_b, none_c) in
      let head : y ≡ z = apart y z (has_here y ys) (has_here z zs) level in
      let rest =
      bench_same ys zs (omega arith) sb.1 sc.1 (λ a c ha hc. apart a c (has_there a y ys ha) (has_there c z zs hc))
      (λ u. omega (arith, same u, ap (λ n. cond {A = ℕ} (ltb u n) 1 0) level))
      in
      cc

  -- two benches of as many seats that hold the best of the same askers are the same
  pub best_of_unique : (xs ys b c : List ℕ) → ToldApart v xs → ((p : ℕ → Bool) → number p xs ≡ number p ys) → length b ≡ length c →
      BestOf v xs b → BestOf v ys c → b ≡ c
  best_of_unique xs ys b c apart same e best-b best-c =
      let best = best_of_same ys xs c (λ p. sym (same p)) best-c in
      bench_same b c e best-b.sorted best.sorted
      (λ y z hy hz. known_same xs apart y z (known_seated xs b best-b y hy) (known_seated xs c best z hz))
      (λ u. best-b.many u ∙ ap (λ n. min n (above v u xs)) e ∙ sym (best.many u))
