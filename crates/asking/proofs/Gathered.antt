-- The rows that a set of applicants has at a workshop: which they are, one applicant more, and how many pass a test.
use Rattle.std.proofs.Common.{◌≡◌, ℕ, zero, suc, ◌+◌, ◌<◌, ◌≤◌, Bool, true, false, ◌&&◌, ltb, ◌≢◌, [], ◌∷◌, get_or, sym, refl, ap, ◌∙◌, inl, inr, arith}
use mathlib.Core.Path.{fun_ext}
use Rattle.std.proofs.lemmas.Bool.Decides.{nat_tests}
use Rattle.std.proofs.lemmas.Bool.{cases_eq, cases_Bool, false≢true, cond-true, cond-false}
use Rattle.layout.specs.Tables.{Tables, Proper, applicants, workshops, has}
use Rattle.round.specs.Market.{count}
use Rattle.points.specs.Standing.{no_row, row_of, row_worth}
use Rattle.bench.specs.Best.{number, ToldApart}
use Rattle.bench.proofs.Numbers.{has_here, has_there, has_cases, number_none}
use Rattle.asking.specs.Ended.{rows_of_set, rows_at}
use Rattle.asking.proofs.Standings.{Of, row_once, row_found, row_lacking, row_worth_one, row_small, rows_rise}

module _ (t : Tables) (X : ℕ → Bool) where
  rows_of_set_has : (r i k : ℕ) → i ≤ r → r < i + k → X (get_or t.row_applicants r 0) ≡ true → has r (rows_of_set t X i k) ≡ true
  unfolding rows_of_set
  rows_of_set_has r i zero l h x = absurd (omega arith)
  rows_of_set_has r i (suc k) l h x =
      elim (cases_eq r i) [
        | inl e ↦ let y : X (get_or t.row_applicants i 0) ≡ true = rw e at x in rw (cond-true _ _ _ y, e) (has_here i _)
        | inr ne ↦
            let rest = rows_of_set_has r (i + 1) k (omega arith) (omega arith) x in
            elim (cases_Bool (X (get_or t.row_applicants i 0))) [
              | inl y ↦ rw (cond-true _ _ _ y) (has_there r i _ rest)
              | inr f ↦ rw (cond-false _ _ _ f) rest
            ]
      ]

  has_rows_of_set : (r i k : ℕ) → has r (rows_of_set t X i k) ≡ true → (i ≤ r) × (r < i + k) × (X (get_or t.row_applicants r 0) ≡ true)
  unfolding rows_of_set has
  has_rows_of_set r i zero h = absurd (false≢true h)
  has_rows_of_set r i (suc k) h =
      elim (cases_Bool (X (get_or t.row_applicants i 0))) [
        | inl y ↦
            elim (has_cases r i _ (rw (cond-true _ _ _ y) at h)) [
              | inl e ↦ (omega arith, omega arith, rw e y)
              | inr m ↦ let rest = has_rows_of_set r (i + 1) k m in (omega arith, omega arith, rest.2)
            ]
        | inr f ↦ let rest = has_rows_of_set r (i + 1) k (rw (cond-false _ _ _ f) at h) in (omega arith, omega arith, rest.2)
      ]

  rows_of_set_none : ((c : ℕ) → X c ≡ false) → (i k : ℕ) → rows_of_set t X i k ≡ []
  unfolding rows_of_set
  rows_of_set_none none i zero = refl
  rows_of_set_none none i (suc k) = cond-false _ _ _ (none (get_or t.row_applicants i 0)) ∙ rows_of_set_none none (i + 1) k

  -- nobody has no rows
  pub rows_at_none : (w : ℕ) → ((c : ℕ) → X c ≡ false) → rows_at t X w ≡ []
  unfolding rows_at
  rows_at_none w none = rows_of_set_none none _ _

module _ (t : Tables) (X Y : ℕ → Bool) where
  -- sets that agree on the applicants of the rows have the same rows
  rows_of_set_same : (i k : ℕ) → ((r : ℕ) → i ≤ r → r < i + k → Y (get_or t.row_applicants r 0) ≡ X (get_or t.row_applicants r 0)) → rows_of_set t Y i k ≡ rows_of_set t X i k
  unfolding rows_of_set
  rows_of_set_same i zero h = refl
  rows_of_set_same i (suc k) h =
      let here = h i (omega arith) (omega arith) in
      let rest = rows_of_set_same (i + 1) k (λ r l g. h r (omega arith) (omega arith)) in
      cc

  -- where they differ at the row x alone, there is one row more
  number_rows_of_set : (p : ℕ → Bool) (x i k : ℕ) → i ≤ x → x < i + k → Y (get_or t.row_applicants x 0) ≡ true → X (get_or t.row_applicants x 0) ≡ false →
      ((r : ℕ) → i ≤ r → r < i + k → r ≢ x → Y (get_or t.row_applicants r 0) ≡ X (get_or t.row_applicants r 0)) →
      number p (rows_of_set t Y i k) ≡ number p (x ∷ rows_of_set t X i k)
  unfolding rows_of_set number
  number_rows_of_set p x i zero l h y n same = absurd (omega arith)
  number_rows_of_set p x i (suc k) l h y n same =
      elim (cases_eq x i) [
        | inl e ↦
            let rest = rows_of_set_same (i + 1) k (λ r lr hr. same r (omega arith) (omega arith) (omega arith)) in
            let y' : Y (get_or t.row_applicants i 0) ≡ true = rw e at y in
            let n' : X (get_or t.row_applicants i 0) ≡ false = rw e at n in
            rw (y', n', rest, e)
        | inr ne ↦
            let rest = number_rows_of_set p x (i + 1) k (omega arith) (omega arith) y n (λ r lr hr. same r (omega arith) (omega arith)) in
            let here = same i (omega arith) (omega arith) (omega arith) in
            elim (cases_Bool (X (get_or t.row_applicants i 0))) [
              | inl b ↦ rw (here, b) (omega arith)
              | inr b ↦ rw (here, b) rest
            ]
      ]

module _ (t : Tables) (ok : Proper t) (w : ℕ) (l : w < workshops t) where
  -- the rows at w of those of X
  pub has_rows_at : (X : ℕ → Bool) (r : ℕ) → has r (rows_at t X w) ≡ true → Of t w r × (X (get_or t.row_applicants r 0) ≡ true)
  unfolding rows_at
  has_rows_at X r h = let f = has_rows_of_set t X r _ _ h in let up = rows_rise t ok w l in (omega arith, f.2)

  pub rows_at_has : (X : ℕ → Bool) (r : ℕ) → Of t w r → X (get_or t.row_applicants r 0) ≡ true → has r (rows_at t X w) ≡ true
  unfolding rows_at
  rows_at_has X r h x = let up = rows_rise t ok w l in rows_of_set_has t X r _ _ h.0 (omega arith) x

  pub rows_at_apart : (X : ℕ → Bool) → ToldApart (row_worth t) (rows_at t X w)
  rows_at_apart X x y hx hy pos e = row_worth_one t ok w l x y (has_rows_at X x hx).0 (has_rows_at X y hy).0 e

  -- one applicant more
  module _ (X Y : ℕ → Bool) (b : ℕ) (new : X b ≡ false) (now : Y b ≡ true) (same : (c : ℕ) → c ≢ b → Y c ≡ X c) where
    pub rows_at_more : row_of t w b ≢ no_row → (p : ℕ → Bool) → number p (rows_at t Y w) ≡ number p (row_of t w b ∷ rows_at t X w)
    unfolding rows_at
    rows_at_more row p =
        let up = rows_rise t ok w l in
        let f = row_found t ok w l b row in
        number_rows_of_set t X Y p (row_of t w b) _ _ f.0.0 (omega arith) (rw f.1 now) (rw f.1 new)
        (λ r lr hr ne. same _ (λ e. ne (row_once t ok w l r (row_of t w b) (omega arith) f.0 (e ∙ sym f.1))))

    -- who has no row there
    pub rows_at_still : row_of t w b ≡ no_row → rows_at t Y w ≡ rows_at t X w
    unfolding rows_at
    rows_at_still none =
        let up = rows_rise t ok w l in
        rows_of_set_same t X Y _ _ (λ r lr hr. same _ (row_lacking t ok w l b none r (omega arith)))

  -- those of X below c
  module _ (X : ℕ → Bool) (p : ℕ → Bool) (none : p no_row ≡ false) where
    number_below : (c : ℕ) → number p (rows_at t (λ b. X b && ltb b c) w) ≡ count (λ b. X b && p (row_of t w b)) c
    unfolding count number
    number_below zero = number_none p _ (λ r h. let x = (has_rows_at _ r h).1 in grind (arith, nat_tests))
    number_below (suc c) =
        let ih = number_below c in
        let new : X c && ltb c c ≡ false = grind (arith, nat_tests) in
        let other : (b : ℕ) → b ≢ c → (X b && ltb b (suc c)) ≡ (X b && ltb b c) = λ b ne. grind (arith, nat_tests) in
        elim (cases_Bool (X c)) [
          | inr f ↦
              let all : ◌≡◌ {A = ℕ → Bool} (λ b. X b && ltb b (suc c)) (λ b. X b && ltb b c) =
              fun_ext (λ b. elim (cases_eq b c) [ inl e ↦ let g : X b ≡ false = ap X e ∙ f in grind arith | inr ne ↦ other b ne ]) in
              let still = ap (λ (Y : ℕ → Bool). number p (rows_at t Y w)) all in
              rw f (omega arith)
          | inl x ↦
              let now : (X c && ltb c (suc c)) ≡ true = grind (arith, nat_tests) in
              elim (cases_eq (row_of t w c) no_row) [
                | inl e ↦
                    let still = rows_at_still _ _ c new now other e in
                    let out : p (row_of t w c) ≡ false = ap p e ∙ none in
                    rw (still, x, out) (omega arith)
                | inr row ↦
                    let more = rows_at_more _ _ c new now other row p in
                    rw (more, x) (omega arith)
              ]
        ]

  rows_at_below : (X : ℕ → Bool) → rows_at t X w ≡ rows_at t (λ b. X b && ltb b (applicants t)) w
  unfolding rows_at
  rows_at_below X =
      let up = rows_rise t ok w l in
      rows_of_set_same t (λ b. X b && ltb b (applicants t)) X _ _
      (λ r lr hr. let small = ok.rowed.1 r (row_small t ok w l r (omega arith)) in grind (arith, nat_tests))

  -- how many of them pass a test that no row does not pass
  pub number_rows_at : (X : ℕ → Bool) (p : ℕ → Bool) → p no_row ≡ false → number p (rows_at t X w) ≡ count (λ c. X c && p (row_of t w c)) (applicants t)
  number_rows_at X p none =
      ap (number p) (rows_at_below X) ∙ number_below X p none (applicants t)
