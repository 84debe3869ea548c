-- Laws of what lies over a lent slice: one number or one part more, a part that was written, and how long it is.
use Rattle.std.proofs.Common.{◌≡◌, ℕ, ◌+◌, ◌-◌, ◌<◌, ◌≤◌, List, [], ◌∷◌, ◌++◌, length, take, drop, set, sym, refl, ap, ◌∙◌, ap₂, zero-add, add-one, arith}
use Rattle.std.proofs.lemmas.List.{append-nil, drop_all, append_assoc, length-append, length-take-le, length-drop, take_at, drop_at, drop-drop, set_split}
use Rattle.layout.specs.Slices.{over, table}
use Rattle.layout.proofs.Flats.{length_table, table_more}
use Rattle.codec.specs.Puts.{put}

pub put_front : (xs old : List ℕ) → put 0 xs old ≡ over xs old
put_front xs old = rw zero-add

pub set_is_put : (i y : ℕ) (old : List ℕ) → i < length old → set old i y ≡ put i (y ∷ []) old
set_is_put i y old l = rw (add-one i) (set_split old i y l)

-- behind what was put, one part more
pub put_put : (at n : ℕ) (xs ys old : List ℕ) → at ≤ length old → at + length xs ≡ n → put n ys (put at xs old) ≡ put at (xs ++ ys) old
put_put at n xs ys old l e =
    let front = take at old ++ xs in
    let back = drop (at + length xs) old in
    let len : length front ≡ n = omega (arith, length-append (take at old) xs, length-take-le at old l) in
    let whole : put at xs old ≡ front ++ back = sym (append_assoc (take at old) xs back) in
    let kept = ap (λ (z : List ℕ). take n z) whole ∙ take_at front back n len in
    let more : at + length xs + length ys ≡ at + length (xs ++ ys) = omega (arith, length-append xs ys) in
    let rest : drop (n + length ys) (put at xs old) ≡ drop (at + length (xs ++ ys)) old =
    sym (drop-drop (length ys) n (put at xs old))
    ∙ (ap (λ (z : List ℕ). drop (length ys) (drop n z)) whole
    ∙ (ap (λ (z : List ℕ). drop (length ys) z) (drop_at front back n len)
    ∙ (drop-drop (length ys) (at + length xs) old ∙ ap (λ (k : ℕ). drop k old) more)))
    in
    ap₂ (λ (p q : List ℕ). p ++ (ys ++ q)) kept rest ∙ simp append_assoc

-- the step of any loop or run of writers that puts part after part
pub put_more : (at n : ℕ) (xs ys s t old : List ℕ) → at ≤ length old → n ≡ at + length xs → s ≡ put at xs old → t ≡ put n ys s → t ≡ put at (xs ++ ys) old
put_more at n xs ys s t old l e h g = rw h at g ∙ put_put at n xs ys old l (sym e)

pub put_over : (n : ℕ) (xs ys old : List ℕ) → length xs ≡ n → put n ys (over xs old) ≡ over (xs ++ ys) old
put_over n xs ys old e =
    ap (λ (z : List ℕ). put n ys z) (sym (put_front xs old)) ∙ (put_put 0 n xs ys old (omega arith) (omega arith) ∙ put_front (xs ++ ys) old)

pub length_over : (xs old : List ℕ) → length xs ≤ length old → length (over xs old) ≡ length old
length_over xs old l = omega (arith, length-append xs (drop (length xs) old), length-drop (length xs) old)

pub length_put : (at : ℕ) (xs old : List ℕ) → at + length xs ≤ length old → length (put at xs old) ≡ length old
length_put at xs old l =
    omega (
      arith,
      length-append (take at old) (xs ++ drop (at + length xs) old),
      length-append xs (drop (at + length xs) old),
      length-take-le at old (omega arith),
      length-drop (at + length xs) old,
    )

-- the step of a loop that writes f i at i, or f i at `at + i`
pub over_table_more : (f : ℕ → ℕ) (i y : ℕ) (s old : List ℕ) → s ≡ over (table f i) old → y ≡ f i → i < length old →
    set s i y ≡ over (table f (i + 1)) old
over_table_more f i y s old e v l =
    let len = length_table f i in
    ap₂ (λ (x : List ℕ) (z : ℕ). set x i z) e v
    ∙ (set_is_put i (f i) (over (table f i) old) (omega (arith, length_over (table f i) old (omega arith)))
    ∙ (put_over i (table f i) (f i ∷ []) old len ∙ ap (λ (z : List ℕ). over z old) (sym (table_more f i))))

-- after the loop, which stopped at n
pub over_end : (f : ℕ → List ℕ) (i n : ℕ) (s old : List ℕ) → i ≡ n → s ≡ over (f i) old → s ≡ over (f n) old
over_end f i n s old k e = rw k at e

pub over_table_end : (f : ℕ → ℕ) (i n y : ℕ) (s old : List ℕ) → i ≡ n → s ≡ over (table f i) old → y ≡ f i → n < length old →
    set s n y ≡ over (table f (n + 1)) old
over_table_end f i n y s old k e v l = over_table_more f n y s old (rw k at e) (rw k at v) l

-- how long a part is
pub length_part : (at e : ℕ) (xs : List ℕ) → e ≤ length xs → length (take (e - at) (drop at xs)) ≡ e - at
length_part at e xs l = length-take-le (e - at) (drop at xs) (omega (arith, length-drop at xs))

-- after a write to the k numbers from `at` on, which hold ys now
pub put_part : (at k : ℕ) (ys xs old : List ℕ) → ys ≡ xs → length xs ≡ k → take at old ++ (ys ++ drop k (drop at old)) ≡ put at xs old
put_part at k ys xs old e n = rw (e, ← n, drop-drop (length xs) at old) refl

-- over all of what was there
pub over_whole : (xs old : List ℕ) → length old ≡ length xs → over xs old ≡ xs
over_whole xs old e = rw (drop_all (length xs) old (omega arith), append-nil xs) refl

pub put_whole : (xs old : List ℕ) → length old ≡ length xs → put 0 xs old ≡ xs
put_whole xs old e = put_front xs old ∙ over_whole xs old e
