-- The last pass of a run: what is told so far lies over the front of the results, and who has a place is counted there.
use Rattle.std.proofs.Common.{◌≡◌, ℕ, zero, suc, ◌+◌, ◌-◌, ◌<◌, ◌≤◌, Bool, not, cond, eqb, List, [], ◌∷◌, ◌++◌, length, get_or, take, drop, set, sum_by, count_by, sym, refl, ap, ◌∙◌, inl, inr, append-nil, add-one, arith}
use Rattle.std.proofs.lemmas.Bool.{cond-true, cond-false, cases_lt, lt-ltb, le-ltb, ne_eqb}
use Rattle.std.proofs.lemmas.List.{get_or-append_right, get_or-drop, get_or-take, length-append, length-drop, length-take, drop_all}
use Rattle.std.proofs.lemmas.List.FromFn.{sum_by-map-range_with_len_more}
use Rattle.layout.specs.Slices.{table, over}
use Rattle.layout.specs.Tables.{Tables, Proper, applicants, list_length}
use Rattle.layout.proofs.Flats.{length_table, table_more}
use Rattle.round.specs.Market.{count}
use Rattle.round.proofs.Count.{count_same}
use Rattle.points.proofs.Cursors.{over_more}
use Rattle.asking.specs.Asking.{ends_at, told_from}

-- who has a place is told no 255
abbrev pub is_place : ℕ → Bool
is_place x = not (eqb x 255)

count_table : (f : ℕ → ℕ) (n : ℕ) → count_by is_place (table f n) ≡ count (λ c. is_place (f c)) n
unfolding count
count_table f zero = refl
count_table f (suc n) =
    let g : ℕ → ℕ = λ x. cond (is_place x) 1 0 in
    let more : sum_by g (table f (suc n)) ≡ sum_by g (table f n) + g (f n) = rw (add-one n) at (sum_by-map-range_with_len_more g f 0 n n (omega arith)) in
    let before = count_table f n in
    omega arith

module _ (t : Tables) (old : List ℕ) where
  module _ (s : List ℕ) (n k : ℕ) (room : n ≤ length old) (told : s ≡ over (table (told_from t old) k) (take n old)) (l : k < n) where
    long : length s ≡ n
    long =
        let all = ap {B = ℕ} (λ (xs : List ℕ). length xs) told in
        let a = length-append (table (told_from t old) k) (drop (length (table (told_from t old) k)) (take n old)) in
        let b = length-drop (length (table (told_from t old) k)) (take n old) in
        omega (arith, length_table (told_from t old) k, length-take n old)

    -- k's number is as it was
    pub getD_untold : get_or s k 0 ≡ get_or old k 0
    getD_untold =
        let first = length_table (told_from t old) k in
        ap (λ (xs : List ℕ). get_or xs k 0) told
        ∙ get_or-append_right (table (told_from t old) k) _ k k 0 first (omega arith)
        ∙ get_or-drop (length (table (told_from t old) k)) (take n old) (k - k) 0
        ∙ ap (λ (i : ℕ). get_or (take n old) i 0) (omega arith)
        ∙ get_or-take n old k 0 l

    pub told_more : (y : ℕ) → y ≡ told_from t old k → set s k y ≡ over (table (told_from t old) (k + 1)) (take n old)
    told_more y e =
        over_more (table (told_from t old) k) (take n old) s k y told (length_table (told_from t old) k) (let e = long in omega arith)
        ∙ ap (λ (x : ℕ). over (table (told_from t old) k ++ x ∷ []) (take n old)) e
        ∙ ap (λ (xs : List ℕ). over xs (take n old)) (sym (table_more (told_from t old) k))

    pub told_place : get_or s k 0 - 1 < list_length t k → get_or s k 0 - 1 ≡ told_from t old k
    told_place h =
        let same = getD_untold in
        let yes_test = lt-ltb (get_or old k 0 - 1) (list_length t k) (omega arith) in
        ap (λ (x : ℕ). x - 1) same ∙ sym (cond-true _ _ _ yes_test)

    pub told_none : list_length t k ≤ get_or s k 0 - 1 → 255 ≡ told_from t old k
    told_none h =
        let same = getD_untold in
        let no_test = le-ltb (get_or old k 0 - 1) (list_length t k) (omega arith) in
        sym (cond-false _ _ _ no_test)

  -- once all are told
  module _ (ok : Proper t) (s : List ℕ) (n m : ℕ) (is_all : m ≡ applicants t) (told : s ≡ over (table (told_from t old) m) (take n old)) (within : n ≤ m) where
    pub told_all : s ≡ table (told_from t old) (applicants t)
    told_all =
        let long = length_table (told_from t old) m in
        told
        ∙ ap (λ (xs : List ℕ). table (told_from t old) m ++ xs) (drop_all (length (table (told_from t old) m)) (take n old) (omega (arith, length-take n old)))
        ∙ append-nil (table (told_from t old) m)
        ∙ ap (table (told_from t old)) is_all

    place_is : (c : ℕ) → c < applicants t → is_place (told_from t old c) ≡ ends_at t old c
    place_is c l =
        let few = ok.started.3 c l in
        elim (cases_lt (get_or old c 0 - 1) (list_length t c)) [
          | inl h ↦ rw (lt-ltb _ _ h, ne_eqb (get_or old c 0 - 1) 255 (λ e. omega arith)) refl
          | inr h ↦ rw (le-ltb _ _ h) refl
        ]

    pub placed_counted : count_by is_place s ≡ count (ends_at t old) (applicants t)
    placed_counted = ap (count_by is_place) told_all ∙ count_table (told_from t old) (applicants t) ∙ count_same _ _ (applicants t) place_is
