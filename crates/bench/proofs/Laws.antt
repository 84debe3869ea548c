-- What an ask does to a bench: nobody is lost, the order stays, and of any worth the bench holds as many as it can.
use Rattle.std.proofs.Common.{◌≡◌, ℕ, suc, ◌+◌, ◌<◌, ◌≤◌, min, Bool, true, false, cond, eqb, ltb, ◌⊎◌, List, [], ◌∷◌, ◌++◌, length, take, sym, refl, ap, ◌∙◌, inl, inr, arith}
use Rattle.std.proofs.lemmas.Bool.{cases_lt, cond-true, and_from, and_parts, cases_eq, ne_eqb, cond-false, le-ltb, lt-ltb}
use Rattle.std.proofs.lemmas.Bool.Decides.{nat_tests}
use Rattle.layout.specs.Tables.{has}
use Rattle.bench.specs.Row.{after, after_all, out, leads, taken_in, last_seat, left_out}
use Rattle.bench.specs.Best.{number, above, BestFirst}
use Rattle.bench.proofs.Shift.{cond_same, leads_false}
use Rattle.bench.proofs.Numbers.{has_here, has_there, has_cases, number_le, number_none, has_number, number_has}

module _ (v : ℕ → ℕ) where
  pub length_after : (x : ℕ) (b : List ℕ) → length (after v x b) ≡ length b
  unfolding after
  length_after x [] = refl
  length_after x (y ∷ ys) =
      elim (ltb (v y) (v x)) as (λ t. length (cond t (x ∷ after v y ys) (y ∷ after v x ys)) ≡ suc (length ys)) [
        | true ↦ ap suc (length_after y ys)
        | false ↦ ap suc (length_after x ys)
      ]

  -- whoever sat there or asks, sits there or is out
  pub number_after : (p : ℕ → Bool) (x : ℕ) (b : List ℕ) → number p (after v x b) + cond (p (out v x b)) 1 0 ≡ number p b + cond (p x) 1 0
  unfolding after out number
  number_after p x [] = refl
  number_after p x (y ∷ ys) =
      elim (ltb (v y) (v x)) as
      (λ t.
      number p (cond t (x ∷ after v y ys) (y ∷ after v x ys)) + cond (p (cond t (out v y ys) (out v x ys))) 1 0
      ≡ (cond (p y) 1 0 + number p ys) + cond (p x) 1 0) [
        | true ↦ omega (arith, number_after p y ys)
        | false ↦ omega (arith, number_after p x ys)
      ]

  pub has_after : (z x : ℕ) (b : List ℕ) → has z (after v x b) ≡ true → (z ≡ x) ⊎ (has z b ≡ true)
  has_after z x b h =
      elim (cases_eq z x) [
        | inl e ↦ inl e
        | inr ne ↦ inr (has_number z b (omega (arith, number_has z (after v x b) h, rw (ne_eqb z x ne) at (number_after (eqb z) x b))))
      ]

  -- a row with no points changes nothing
  pub after_worthless : (x : ℕ) (b : List ℕ) → v x ≡ 0 → after v x b ≡ b
  unfolding after
  after_worthless x [] e = refl
  after_worthless x (y ∷ ys) e = cond-false _ _ _ (le-ltb (v y) (v x) (omega arith)) ∙ ap (λ (zs : List ℕ). y ∷ zs) (after_worthless x ys e)

  -- nobody further down is worth more than the head of a sorted bench
  pub above_head : (y u : ℕ) (ys : List ℕ) → BestFirst v (y ∷ ys) → v y ≤ u → above v u ys ≡ 0
  unfolding BestFirst
  above_head y u ys sorted h =
      number_none (λ z. ltb u (v z)) ys (λ z k. le-ltb u (v z) (elim (sorted.0 z k) [ inl l ↦ omega arith | inr e ↦ omega (arith, ap v e) ]))

  pub above_after : (u x : ℕ) (b : List ℕ) → BestFirst v b → above v u (after v x b) ≡ min (length b) (above v u b + cond (ltb u (v x)) 1 0)
  unfolding after number BestFirst
  above_after u x [] sorted = omega arith
  above_after u x (y ∷ ys) sorted =
      let none = above_head y u ys sorted in
      let few = number_le (λ z. ltb u (v z)) ys in
      let this = above_after u y ys sorted.1 in
      let that = above_after u x ys sorted.1 in
      elim (cases_lt (v y) (v x)) [
        | inl h ↦ rw (lt-ltb (v y) (v x) h) (grind (arith, nat_tests, this, none, few))
        | inr h ↦ rw (le-ltb (v y) (v x) h) (grind (arith, nat_tests, that, none, few))
      ]

  -- the order stays, where the worths tell the asker and all who sit there apart
  pub sorted_after : (x : ℕ) (b : List ℕ) → ((y z : ℕ) → has y (x ∷ b) ≡ true → has z (x ∷ b) ≡ true → v y ≡ v z → y ≡ z) → BestFirst v b →
      BestFirst v (after v x b)
  unfolding after BestFirst
  sorted_after x [] apart sorted = tt
  sorted_after x (y ∷ ys) apart sorted =
      elim (cases_lt (v y) (v x)) [
        | inl h ↦
            rw (lt-ltb (v y) (v x) h) (
              λ z k.
                  inl (elim (has_after z y ys k) [
                    | inl e ↦ omega (arith, ap v e)
                    | inr m ↦ (elim (sorted.0 z m) [ inl l ↦ omega arith | inr e ↦ omega (arith, ap v e) ])
                  ]),
              sorted_after y ys (λ a c ka kc e. apart a c (has_there a x (y ∷ ys) ka) (has_there c x (y ∷ ys) kc) e) sorted.1,
            )
        | inr h ↦
            rw (le-ltb (v y) (v x) h) (
              λ z k.
                  elim (has_after z x ys k) [
                    | inl e ↦
                        (elim (cases_lt (v x) (v y)) [
                          | inl l ↦ inl (omega (arith, ap v e))
                          | inr l ↦ inr (e ∙ apart x y (has_here x (y ∷ ys)) (has_there y x (y ∷ ys) (has_here y ys)) (omega arith))
                        ])
                    | inr m ↦ sorted.0 z m
                  ],
              sorted_after x ys (λ a c ka kc e. apart a c (wider a ka) (wider c kc) e) sorted.1,
            )
      ]
    where
      wider : (a : ℕ) → has a (x ∷ ys) ≡ true → has a (x ∷ (y ∷ ys)) ≡ true
      wider a k =
          elim (has_cases a x ys k) [
            | inl e ↦ rw e (has_here x (y ∷ ys))
            | inr m ↦ has_there a x (y ∷ ys) (has_there a y ys m)
          ]

  -- On a sorted bench an ask from the last seat up does the same.
  after_head : (y : ℕ) (ys : List ℕ) → BestFirst v (y ∷ ys) → after v y ys ≡ take (length ys) (y ∷ ys)
  unfolding after BestFirst
  after_head y [] sorted = refl
  after_head y (z ∷ zs) sorted =
      let rest = after_head z zs sorted.1 in
      elim (sorted.0 z (has_here z zs)) [
        | inl l ↦ (let here = cond-true (ltb (v z) (v y)) (y ∷ after v z zs) (z ∷ after v y zs) (lt-ltb (v z) (v y) l) in cc)
        | inr e ↦
            (let level = le-ltb (v z) (v y) (omega (arith, ap v e)) in
            let here = cond-false (ltb (v z) (v y)) (y ∷ after v z zs) (z ∷ after v y zs) level in
            cc)
      ]

  out_head : (y : ℕ) (ys : List ℕ) → BestFirst v (y ∷ ys) → out v y ys ≡ last_seat y ys
  unfolding out last_seat BestFirst
  out_head y [] sorted = refl
  out_head y (z ∷ zs) sorted =
      let rest = out_head z zs sorted.1 in
      elim (sorted.0 z (has_here z zs)) [
        | inl l ↦ (let here = cond-true (ltb (v z) (v y)) (out v z zs) (out v y zs) (lt-ltb (v z) (v y) l) in cc)
        | inr e ↦
            (let level = le-ltb (v z) (v y) (omega (arith, ap v e)) in
            let here = cond-false (ltb (v z) (v y)) (out v z zs) (out v y zs) level in
            cc)
      ]

  leads_from : (x : ℕ) (b : List ℕ) → ((z : ℕ) → has z b ≡ true → v z < v x) → leads v x b ≡ true
  unfolding leads
  leads_from x [] behind = refl
  leads_from x (y ∷ ys) behind = and_from _ _ (lt-ltb (v y) (v x) (behind y (has_here y ys))) (leads_from x ys (λ z k. behind z (has_there z y ys k)))

  leads_head : (x y : ℕ) (ys : List ℕ) → BestFirst v (y ∷ ys) → v y < v x → leads v x (y ∷ ys) ≡ true
  unfolding BestFirst
  leads_head x y ys sorted h =
      leads_from x (y ∷ ys)
      (λ z k.
      elim (has_cases z y ys k) [
        | inl e ↦ omega (arith, ap v e)
        | inr m ↦ (elim (sorted.0 z m) [ inl l ↦ omega arith | inr e ↦ omega (arith, ap v e) ])
      ])

  last_behind : (x y : ℕ) (ys : List ℕ) → leads v x (y ∷ ys) ≡ true → ltb (v (last_seat y ys)) (v x) ≡ true
  unfolding leads last_seat
  last_behind x y [] h = (and_parts _ _ h).0
  last_behind x y (z ∷ zs) h = last_behind x z zs (and_parts (ltb (v y) (v x)) _ h).1

  pub taken_in_after : (x : ℕ) (b : List ℕ) → BestFirst v b → taken_in v x b ≡ after v x b
  unfolding taken_in after BestFirst
  taken_in_after x [] sorted = refl
  taken_in_after x (y ∷ ys) sorted =
      elim (cases_lt (v y) (v x)) [
        | inl h ↦
            cond-true _ _ _ (leads_head x y ys sorted h)
            ∙ ap (λ (zs : List ℕ). x ∷ zs) (sym (after_head y ys sorted))
            ∙ sym (cond-true _ _ _ (lt-ltb (v y) (v x) h))
        | inr h ↦
            cond-false _ _ _ (leads_false v x 0 0 (y ∷ ys) (omega arith) (le-ltb (v y) (v x) h))
            ∙ ap (λ (zs : List ℕ). y ∷ zs) (taken_in_after x ys sorted.1)
            ∙ sym (cond-false _ _ _ (le-ltb (v y) (v x) h))
      ]

  pub left_out_out : (x : ℕ) (b : List ℕ) → BestFirst v b → left_out v x b ≡ out v x b
  unfolding left_out out last_seat BestFirst
  left_out_out x [] sorted = cond_same (ltb (v x) (v x)) x
  left_out_out x (y ∷ []) sorted = refl
  left_out_out x (y ∷ (z ∷ zs)) sorted =
      elim (cases_lt (v y) (v x)) [
        | inl h ↦
            cond-true _ _ _ (last_behind x y (z ∷ zs) (leads_head x y (z ∷ zs) sorted h))
            ∙ sym (out_head y (z ∷ zs) sorted)
            ∙ sym (cond-true _ _ _ (lt-ltb (v y) (v x) h))
        | inr h ↦ left_out_out x (z ∷ zs) sorted.1 ∙ sym (cond-false _ _ _ (le-ltb (v y) (v x) h))
      ]

  pub length_after_all : (xs b : List ℕ) → length (after_all v xs b) ≡ length b
  unfolding after_all
  length_after_all [] b = refl
  length_after_all (x ∷ xs) b = length_after_all xs (after v x b) ∙ length_after x b

  -- one more asks behind all the others
  pub after_all_push : (x : ℕ) (xs b : List ℕ) → after_all v (xs ++ x ∷ []) b ≡ after v x (after_all v xs b)
  unfolding after_all
  after_all_push x [] b = refl
  after_all_push x (y ∷ ys) b = after_all_push x ys (after v y b)
