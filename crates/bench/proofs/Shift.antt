-- What an ask does to a bench: from the last seat up, whoever goes behind the asker moves down by one.
use Rattle.std.proofs.Common.{◌≡◌, ℕ, zero, suc, ◌+◌, ◌-◌, ◌<◌, Bool, true, false, cond, eqb, ltb, List, [], ◌∷◌, ◌++◌, length, get_or, reverse, take, drop, set, sym, refl, ap, ◌∙◌, arith}
use Rattle.std.proofs.lemmas.List.{append-nil, append_assoc, length-reverse, length-take-le, length-drop, take_more, drop_all, get_or-reverse, get_or-drop, set_at}
use Rattle.std.proofs.lemmas.List.Sums.{prefix_len_passes, prefix_len_stops, suffix_len-le-length}
use Rattle.std.specs.List.{suffix_len, copy_within}
use Rattle.std.proofs.lemmas.Bool.{cond-true, cond-false, and_left, and_right, and_from, eq-eqb, ne_eqb, ltb-true}
use Rattle.points.specs.Standing.{no_row}
use Rattle.bench.specs.Row.{leads, taken_in, left_out, last_seat, answer_of}
use Rattle.bench.specs.declared.Answer.TheVariants.{Kept, Displaced, TurnedDown}

pub cond_same : (b : Bool) (x : ℕ) → cond b x x ≡ x
cond_same true x = refl
cond_same false x = refl

last_seat_at : (x i : ℕ) (ys : List ℕ) → i + 1 ≡ length ys → last_seat x ys ≡ get_or ys i 0
unfolding last_seat
last_seat_at x i [] e = absurd (omega arith)
last_seat_at x zero (y ∷ []) e = refl
last_seat_at x zero (y ∷ (z ∷ zs)) e = absurd (omega arith)
last_seat_at x (suc i) (y ∷ ys) e = last_seat_at y i ys (omega arith)

pub last_seat_getD : (x : ℕ) (ys : List ℕ) → 0 < length ys → last_seat x ys ≡ get_or ys (length ys - 1) 0
last_seat_getD x ys h = last_seat_at x (length ys - 1) ys (omega arith)

-- all from seat i on move down by one, and x sits down there
moved_set : (x : ℕ) (ys : List ℕ) (i m : ℕ) → i + suc m ≡ length ys → set (copy_within ys i (length ys - 1) (i + 1)) i x ≡ take i ys ++ (x ∷ take m (drop i ys))
moved_set x ys i m e =
    let front : List ℕ = take i ys in
    let rest : List ℕ = take m (drop i ys) in
    let gone : drop (i + 1 + (length ys - 1 - i)) ys ≡ [] = drop_all (i + 1 + (length ys - 1 - i)) ys (omega arith) in
    ap (λ (ws : List ℕ). set ((take (i + 1) ys ++ take (length ys - 1 - i) (drop i ys)) ++ ws) i x) gone
    ∙ ap (λ (ws : List ℕ). set ws i x) (append-nil (take (i + 1) ys ++ take (length ys - 1 - i) (drop i ys)))
    ∙ ap (λ n. set (take (i + 1) ys ++ take n (drop i ys)) i x) (omega arith)
    ∙ ap (λ (ws : List ℕ). set (ws ++ rest) i x) (take_more ys i 0 (omega arith))
    ∙ ap (λ (ws : List ℕ). set ws i x) (append_assoc front (get_or ys i 0 ∷ []) rest)
    ∙ set_at front (get_or ys i 0) rest x i (length-take-le i ys (omega arith))

module _ (v : ℕ → ℕ) (x : ℕ) where
  leads_all : (ys : List ℕ) → ((k : ℕ) → k < length ys → ltb (v (get_or ys k 0)) (v x) ≡ true) → leads v x ys ≡ true
  unfolding leads
  leads_all [] each = refl
  leads_all (y ∷ ys) each = and_from _ _ (each 0 (omega arith)) (leads_all ys (λ k h. each (suc k) (omega arith)))

  pub leads_false : (i d : ℕ) (ys : List ℕ) → i < length ys → ltb (v (get_or ys i d)) (v x) ≡ false → leads v x ys ≡ false
  unfolding leads
  leads_false i d [] h e = absurd (omega arith)
  leads_false zero d (y ∷ ys) h e = and_left _ _ e
  leads_false (suc i) d (y ∷ ys) h e = and_right _ _ (leads_false i d ys (omega arith) e)

  -- the asker sits down where it goes ahead of all from there on and not of the one before
  taken_in_at : (i n : ℕ) (ys : List ℕ) → i + suc n ≡ length ys → leads v x (drop i ys) ≡ true → ((j : ℕ) → i ≡ suc j → ltb (v (get_or ys j 0)) (v x) ≡ false) →
      take i ys ++ (x ∷ take n (drop i ys)) ≡ taken_in v x ys
  unfolding taken_in
  taken_in_at i n [] k e stays = absurd (omega arith)
  taken_in_at zero n (y ∷ ys) k e stays = let all : n ≡ length ys = omega arith in ap (λ m. x ∷ take m (y ∷ ys)) all ∙ sym (cond-true _ _ _ e)
  taken_in_at (suc i) n (y ∷ ys) k e stays =
      ap (λ (zs : List ℕ). y ∷ zs) (taken_in_at i n ys (omega arith) e (λ j l. stays (suc j) (ap suc l)))
      ∙ sym (cond-false _ _ _ (leads_false i 0 (y ∷ ys) (omega arith) (stays i refl)))

  -- nobody moves where the last seat stays ahead
  taken_in_same : (i d : ℕ) (ys : List ℕ) → i + 1 ≡ length ys → ltb (v (get_or ys i d)) (v x) ≡ false → taken_in v x ys ≡ ys
  unfolding taken_in
  taken_in_same i d [] k e = refl
  taken_in_same zero d (y ∷ []) k e = cond-false _ _ _ (leads_false 0 d (y ∷ []) (omega arith) e)
  taken_in_same zero d (y ∷ (z ∷ zs)) k e = absurd (omega arith)
  taken_in_same (suc i) d (y ∷ ys) k e =
      cond-false _ _ _ (leads_false (suc i) d (y ∷ ys) (omega arith) e) ∙ ap (λ (zs : List ℕ). y ∷ zs) (taken_in_same i d ys (omega arith) e)

  -- the last n seats hold who goes behind, and the one before them does not
  passes : (ys : List ℕ) (k : ℕ) → k < suffix_len (λ y. ltb (v y) (v x)) ys → ltb (v (get_or ys (length ys - 1 - k) 0)) (v x) ≡ true
  passes ys k h =
      let within = suffix_len-le-length (λ y. ltb (v y) (v x)) ys in
      rw (get_or-reverse ys k 0 (omega arith)) at (prefix_len_passes (λ y. ltb (v y) (v x)) (reverse ys) k 0 h)

  stops : (ys : List ℕ) → suffix_len (λ y. ltb (v y) (v x)) ys < length ys → ltb (v (get_or ys (length ys - 1 - suffix_len (λ y. ltb (v y) (v x)) ys) 0)) (v x) ≡ false
  stops ys h =
      rw (get_or-reverse ys (suffix_len (λ y. ltb (v y) (v x)) ys) 0 h) at
      (prefix_len_stops (λ y. ltb (v y) (v x)) (reverse ys) 0 (omega (arith, length-reverse ys)))

  last_stays : (y : ℕ) (ys : List ℕ) → suffix_len (λ z. ltb (v z) (v x)) (y ∷ ys) ≡ 0 → ltb (v (get_or (y ∷ ys) (length ys) 0)) (v x) ≡ false
  last_stays y ys e = let last : length (y ∷ ys) - 1 - suffix_len (λ z. ltb (v z) (v x)) (y ∷ ys) ≡ length ys = omega (arith, e) in rw last at (stops (y ∷ ys) (omega arith))

  -- nobody goes behind: the bench stays as it is
  pub taken_in_none : (ys : List ℕ) → suffix_len (λ y. ltb (v y) (v x)) ys ≡ 0 → taken_in v x ys ≡ ys
  unfolding taken_in
  taken_in_none [] e = refl
  taken_in_none (y ∷ ys) e = taken_in_same (length ys) 0 (y ∷ ys) (omega arith) (last_stays y ys e)

  -- so many go behind: they move down by one
  pub taken_in_moved : (ys : List ℕ) (i : ℕ) → 0 < suffix_len (λ y. ltb (v y) (v x)) ys → i + suffix_len (λ y. ltb (v y) (v x)) ys ≡ length ys →
      set (copy_within ys i (length ys - 1) (i + 1)) i x ≡ taken_in v x ys
  taken_in_moved ys i h all =
      let n : ℕ = suffix_len (λ y. ltb (v y) (v x)) ys in
      moved_set x ys i (n - 1) (omega arith)
      ∙ taken_in_at i (n - 1) ys (omega arith)
      (leads_all (drop i ys)
      (λ j l.
      let long = length-drop i ys in
      let at : length ys - 1 - (n - 1 - j) ≡ i + j = omega arith in
      rw (get_or-drop i ys j 0) (rw at at (passes ys (n - 1 - j) (omega arith)))))
      (λ j l. let at : length ys - 1 - n ≡ j = omega arith in rw at at (stops ys (omega arith)))

  behind_other : (y : ℕ) → ltb (v y) (v x) ≡ true → y ≡ x → ⊥
  behind_other y h e = let k : v y ≡ v x = ap v e in omega (arith, ltb-true (v y) (v x) h)

  -- what the asker is told, where nobody goes behind, and where the last seat does
  pub answer_none : (ys : List ℕ) → suffix_len (λ y. ltb (v y) (v x)) ys ≡ 0 → TurnedDown ≡ answer_of x (left_out v x ys)
  unfolding left_out last_seat
  answer_none [] e = sym (cond-true _ _ _ (eq-eqb _ x (cond_same (ltb (v x) (v x)) x)))
  answer_none (y ∷ ys) e =
      let same = last_seat_at x (length ys) (y ∷ ys) (omega arith) in
      let stays = last_stays y ys e in
      let test : ltb (v (last_seat x (y ∷ ys))) (v x) ≡ false = cc in
      sym (cond-true _ _ _ (eq-eqb _ x (cond-false _ _ _ test)))

  pub answer_seated : (ys : List ℕ) → 0 < suffix_len (λ y. ltb (v y) (v x)) ys →
      cond (eqb (get_or ys (length ys - 1) 0) no_row) Kept (Displaced (get_or ys (length ys - 1) 0)) ≡ answer_of x (left_out v x ys)
  unfolding left_out
  answer_seated ys h =
      let y : ℕ = get_or ys (length ys - 1) 0 in
      let within = suffix_len-le-length (λ y. ltb (v y) (v x)) ys in
      let same = last_seat_getD x ys (omega arith) in
      let at : length ys - 1 - 0 ≡ length ys - 1 = omega arith in
      let e : ltb (v y) (v x) ≡ true = rw at at (passes ys 0 (omega arith)) in
      let test : ltb (v (last_seat x ys)) (v x) ≡ true = cc in
      let last : left_out v x ys ≡ y = cond-true _ _ _ test ∙ same in
      let told : answer_of x y ≡ cond (eqb y no_row) Kept (Displaced y) = cond-false _ _ _ (ne_eqb y x (behind_other y e)) in
      sym (ap (answer_of x) last ∙ told)
