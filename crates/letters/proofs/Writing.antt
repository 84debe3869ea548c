-- Steps of writing letters: one more piece laid behind those that lie there, one entry more, and the lengths.
use Rattle.std.proofs.Common.{◌≡◌, ℕ, ◌+◌, ◌-◌, ◌*◌, ◌<◌, ◌≤◌, ◌≢◌, List, [], ◌∷◌, ◌++◌, length, get_or, take, drop, set, sym, refl, ap, ◌∙◌, append_assoc, add-zero, arith, below_more}
use borrow.Rule.Slice.PartMut.{put_mid}
use Rattle.std.specs.List.{flat_map}
use Rattle.std.proofs.lemmas.List.{append-nil, take_rest, take_at, drop_at, drop-drop, drop_all, drop_more, set_at, get_or-set_same, get_or-set_other, get_or-take, get_or-drop, length-drop, length-append, length_push, flat_map_more}
use Rattle.layout.specs.Slices.{table, flat, over}
use Rattle.layout.proofs.Flats.{table_more, length_table, length_flat}
use Rattle.layout.proofs.Offsets.{rises}
use Rattle.layout.specs.Tables.{Tables, Started, applicants, list_length}
use Rattle.letters.specs.Letter.{Letter, entry_bytes, encode_letter}
use Rattle.letters.specs.Written.{entry_from, letter_from, letter_bytes, letter_length, all_length}
use Rattle.letters.specs.declared.entry.Entry.{Entry}

-- ys laid over a part from the middle, behind xs, are laid behind xs over the whole
pub over_part : (xs ys old whole part : List ℕ) (at : ℕ) → whole ≡ over xs old → length xs ≡ at →
    part ≡ over ys (take (length whole - at) (drop at whole)) → put_mid at (length whole - at) whole part ≡ over (xs ++ ys) old
over_part xs ys old whole part at e l g =
    let rest : drop at whole ≡ drop at old = ap (drop at) e ∙ drop_at xs _ at l ∙ ap (λ (n : ℕ). drop n old) l in
    let front : take at whole ≡ xs = ap (take at) e ∙ take_at xs _ at l in
    let back : drop (length whole - at) (drop at whole) ≡ [] = drop_all (length whole - at) (drop at whole) (omega (arith, length-drop at whole)) in
    let here : part ≡ ys ++ drop (at + length ys) old = g ∙ ap (over ys) (take_rest whole at ∙ rest) ∙ ap (λ (z : List ℕ). ys ++ z) (drop-drop (length ys) at old) in
    simp (front, back, here, append-nil, length-append, l, append_assoc)

-- the same where only as many bytes are lent as ys has
pub over_bytes : (xs ys old whole : List ℕ) (at n : ℕ) → whole ≡ over xs old → length xs ≡ at → length ys ≡ n →
    put_mid at n whole ys ≡ over (xs ++ ys) old
over_bytes xs ys old whole at n e l k =
    let front : take at whole ≡ xs = ap (take at) e ∙ take_at xs _ at l in
    let rest : drop at whole ≡ drop at old = ap (drop at) e ∙ drop_at xs _ at l ∙ ap (λ (m : ℕ). drop m old) l in
    let behind : drop n (drop at whole) ≡ drop (at + n) old = ap (drop n) rest ∙ drop-drop n at old in
    simp (front, behind, length-append, l, k, append_assoc)

pub length_rest : (whole : List ℕ) (at : ℕ) → length (take (length whole - at) (drop at whole)) ≡ length whole - at
length_rest whole at = ap (λ (z : List ℕ). length z) (take_rest whole at) ∙ length-drop at whole

-- one number more
pub over_push : (xs old : List ℕ) (at y : ℕ) → length xs ≡ at → at < length old → set (over xs old) at y ≡ over (xs ++ y ∷ []) old
over_push xs old at y l h =
    let rest : drop (length xs) old ≡ get_or old at 0 ∷ drop (at + 1) old = ap (λ (n : ℕ). drop n old) l ∙ drop_more old at 0 h in
    let end : at + 1 ≡ length (xs ++ y ∷ []) = omega (arith, length_push xs y) in
    ap (λ (z : List ℕ). set (xs ++ z) at y) rest ∙ set_at xs _ (drop (at + 1) old) y at l
    ∙ sym (append_assoc xs (y ∷ []) (drop (at + 1) old)) ∙ ap (λ (n : ℕ). (xs ++ y ∷ []) ++ drop n old) end

-- what stands before the entries, the entries behind it and the place behind them
pub letter_laid : (head body old first then : List ℕ) (at y : ℕ) → first ≡ over head old → length head ≡ 5 →
    then ≡ over body (take (length first - 5) (drop 5 first)) → 5 + length body ≡ at → at < length old →
    set (put_mid 5 (length first - 5) first then) at y ≡ over (head ++ (body ++ y ∷ [])) old
letter_laid head body old first then at y e l g k h =
    ap (λ (z : List ℕ). set z at y) (over_part head body old first then 5 e l g)
    ∙ over_push (head ++ body) old at y (omega (arith, length-append head body)) h
    ∙ ap (λ (z : List ℕ). over z old) (append_assoc head body (y ∷ []))

-- one item more of those that are left of a list
pub item_more : (xs rest then : List ℕ) (i x : ℕ) → rest ≡ drop i xs → rest ≡ x ∷ then → (then ≡ drop (i + 1) xs) × (x ≡ get_or xs i 0)
item_more xs rest then i x e f =
    let same : x ∷ then ≡ drop i xs = sym f ∙ e in
    (ap (drop 1) same ∙ drop-drop 1 i xs, ap (λ (z : List ℕ). get_or z 0 0) same ∙ get_or-drop i xs 0 0 ∙ ap (λ (k : ℕ). get_or xs k 0) (add-zero i))

-- an item of a part of a list
pub part_item : (xs : List ℕ) (at n i : ℕ) → i < n → get_or (take n (drop at xs)) i 0 ≡ get_or xs (at + i) 0
part_item xs at n i h = get_or-take n (drop at xs) i 0 h ∙ get_or-drop at xs i 0

-- one more place of a list is filled in
pub filled_more : {X : Type 0} (f : ℕ → X) (xs : List X) (i : ℕ) (x d : X) → i < length xs → x ≡ f i →
    ((k : ℕ) → k < i → get_or xs k d ≡ f k) → (k : ℕ) → k < i + 1 → get_or (set xs i x) k d ≡ f k
filled_more f xs i x d l e below =
    below_more (λ k. get_or (set xs i x) k d ≡ f k) i
    (λ k h. let ne : k ≢ i = omega arith in get_or-set_other xs i k x d ne ∙ below k h)
    (get_or-set_same xs i x d l ∙ e)

-- one entry more
pub joined_table_more : {X : Type 0} (f : X → List ℕ) (g : ℕ → X) (j : ℕ) → flat_map f (table g (j + 1)) ≡ flat_map f (table g j) ++ f (g j)
joined_table_more f g j = ap (flat_map f) (table_more g j) ∙ sym (flat_map_more f [] (table g j) (g j))

pub length_joined_entries : (es : List Entry) → length (flat_map entry_bytes es) ≡ 8 * length es
length_joined_entries [] = refl
length_joined_entries (e ∷ es) = omega (arith, length_joined_entries es)

pub length_encode_letter : (l : Letter) → length (encode_letter l) ≡ 6 + 8 * length l.entries
unfolding encode_letter
length_encode_letter l =
    omega (arith, length-append (flat_map entry_bytes l.entries) (l.place ∷ []), length_joined_entries l.entries)

-- where the letters of a round lie: each is six bytes and eight for each entry
abbrev pub letter_at : Tables → ℕ → ℕ
letter_at t a = 6 * a + 8 * get_or t.starts a 0

module _ (t : Tables) (good : Started t) (rows results benches : List ℕ) where
  abbrev pub letters : ℕ → List ℕ
  letters = letter_bytes t rows results benches

  pub length_letter : (a : ℕ) → length (letters a) ≡ letter_length t a
  length_letter a =
      let count = length_table (λ j. entry_from t rows benches (get_or t.starts a 0 + j)) (list_length t a) in
      omega (arith, length_encode_letter (letter_from t rows results benches a))

  pub letter_at_more : (a : ℕ) → a < applicants t → letter_at t (a + 1) ≡ letter_at t a + length (letters a)
  letter_at_more a h = omega (arith, length_letter a, good.2 a h)

  pub length_letters : (a : ℕ) → a ≤ applicants t → length (flat letters a) ≡ letter_at t a
  length_letters a h = length_flat letters (letter_at t) a (omega (arith, good.1)) (λ k l. letter_at_more k (omega arith))

  pub letter_within : (a : ℕ) → a < applicants t → letter_at t a + letter_length t a ≤ all_length t
  letter_within a h =
      let more = letter_at_more a h in
      let last = rises (letter_at t) (applicants t) (λ k l. omega (arith, letter_at_more k l)) (a + 1) (omega arith) in
      omega (arith, length_letter a, good.4)
