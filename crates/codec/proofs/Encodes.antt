-- The parts of a round that is written: how long they are, that they stay within the tables, and how the writers' parts join.
use Rattle.std.proofs.Common.{◌≡◌, ℕ, ◌+◌, ◌-◌, ◌*◌, ◌<◌, ◌≤◌, ltb, List, [], ◌∷◌, ◌++◌, length, get_or, take, drop, set, Ok, Err, Result, sym, refl, ap, ◌∙◌, ap₂, arith}
use Rattle.std.proofs.lemmas.List.{append_assoc, length-append, get_or-take, get_or-drop}
use Rattle.std.proofs.lemmas.Bool.{lt-ltb, le-ltb}
use Rattle.layout.specs.Slices.{table, flat, over, outcome}
use Rattle.layout.specs.Tables.{Tables, Proper, applicants, workshops, rows, places_at, list_length, list_at}
use Rattle.layout.specs.Bytes.{refuse}
use Rattle.layout.specs.Encode.{two_bytes, record_bytes, row_bytes, sheet_bytes, encode}
use Rattle.layout.specs.declared.Refusal.{Refusal}
use Rattle.layout.specs.declared.Refusal.TheVariants.{NoRoom}
use Rattle.layout.specs.declared.Lent.TheVariants.{RoundTables}
use Rattle.layout.proofs.Flats.{flat_more, length_flat, length_table}
use Rattle.layout.proofs.OfProper.{starts_within, row_starts_within, length_list_at}
use Rattle.codec.specs.Puts.{put}
use Rattle.codec.proofs.Puts.{put_more, put_over, put_part, put_front, set_is_put, length_put, over_whole}

module _ (t : Tables) (p : Proper t) where
  pub list_within : (a : ℕ) → a < applicants t → get_or t.starts a 0 + list_length t a ≤ length t.entries
  list_within a l = omega (arith, p.started.2 a l, starts_within t p (a + 1) (omega arith))

  pub entries_small : (j : ℕ) → j < length t.entries → get_or t.entries j 0 < 256
  entries_small j l = omega (arith, p.named j l, p.limited.2)

  -- where record a and the rows of workshop w begin
  pub length_records : (a : ℕ) → a ≤ applicants t → length (flat (record_bytes t) a) ≡ 3 * a + get_or t.starts a 0
  length_records a l =
      length_flat (record_bytes t) (λ (k : ℕ). 3 * k + get_or t.starts k 0) a (omega (arith, p.started.1))
      (λ k h. omega (arith, p.started.2 k (omega arith), length_list_at t p k (omega arith)))

  pub list_small : (a : ℕ) → a < applicants t → (j : ℕ) → j < length (list_at t a) → get_or (list_at t a) j 0 < 256
  list_small a l j h =
      let long = length_list_at t p a l in
      let within = list_within a l in
      let at = get_or-take (list_length t a) (drop (get_or t.starts a 0) t.entries) j 0 (omega arith) ∙ get_or-drop (get_or t.starts a 0) t.entries j 0 in
      omega (arith, entries_small (get_or t.starts a 0 + j) (omega arith))

  pub length_rows : (w «from» n : ℕ) → length (flat (λ (k : ℕ). row_bytes t w («from» + k)) n) ≡ 5 * n
  length_rows w «from» n = length_flat (λ (k : ℕ). row_bytes t w («from» + k)) (λ (k : ℕ). 5 * k) n refl (λ k _. omega arith)

  pub length_sheet : (w : ℕ) → length (sheet_bytes t w) ≡ 5 * (get_or t.row_starts (w + 1) 0 - get_or t.row_starts w 0)
  length_sheet w = length_rows w (get_or t.row_starts w 0) (get_or t.row_starts (w + 1) 0 - get_or t.row_starts w 0)

  pub row_in_sheet : (w k : ℕ) → w < workshops t → k < get_or t.row_starts (w + 1) 0 - get_or t.row_starts w 0 → get_or t.row_starts w 0 + k < rows t
  row_in_sheet w k l h = omega (arith, row_starts_within t p (w + 1) (omega arith))

  pub length_sheets : (w : ℕ) → w ≤ workshops t → length (flat (sheet_bytes t) w) ≡ 5 * get_or t.row_starts w 0
  length_sheets w l =
      length_flat (sheet_bytes t) (λ (k : ℕ). 5 * get_or t.row_starts k 0) w (omega (arith, p.sheeted.1))
      (λ k h. omega (arith, p.sheeted.2 k (omega arith), length_sheet k))

-- a word, a byte and a list
pub record_put : (at x count : ℕ) (ys o o₁ o₂ : List ℕ) → at + 3 ≤ length o → o₁ ≡ put at (two_bytes x) o → o₂ ≡ put (at + 3) ys (set o₁ (at + 2) count) →
    o₂ ≡ put at (two_bytes x ++ (count ∷ ys)) o
record_put at x count ys o o₁ o₂ l h g =
    let room : at + 2 < length o₁ = rw h (omega (arith, length_put at (two_bytes x) o (omega arith))) in
    let counted = put_more at (at + 2) (two_bytes x) (count ∷ []) o₁ (set o₁ (at + 2) count) o (omega arith) refl h (set_is_put (at + 2) count o₁ room) in
    put_more at (at + 3) (two_bytes x ++ (count ∷ [])) ys (set o₁ (at + 2) count) o₂ o (omega arith) refl counted g

-- a byte and two words
pub row_put : (at w x y : ℕ) (o o₁ o₂ : List ℕ) → at + 5 ≤ length o → o₁ ≡ put (at + 1) (two_bytes x) (set o at w) → o₂ ≡ put (at + 3) (two_bytes y) o₁ →
    o₂ ≡ put at (w ∷ (two_bytes x ++ two_bytes y)) o
row_put at w x y o o₁ o₂ l h g =
    let named = put_more at (at + 1) (w ∷ []) (two_bytes x) (set o at w) o₁ o (omega arith) refl (set_is_put at w o (omega arith)) h in
    put_more at (at + 3) (w ∷ two_bytes x) (two_bytes y) o₁ o₂ o (omega arith) refl named g

-- one of many parts more, and all of them
module _ (f : ℕ → List ℕ) where
  pub over_flat_more : (i at k : ℕ) (s ys old : List ℕ) → length (flat f i) ≡ at → ys ≡ f i → length (f i) ≡ k → s ≡ over (flat f i) old →
      take at s ++ (ys ++ drop k (drop at s)) ≡ over (flat f (i + 1)) old
  over_flat_more i at k s ys old e g n h =
      put_part at k ys (f i) s g n
      ∙ (ap (λ (z : List ℕ). put at (f i) z) h ∙ (put_over at (flat f i) (f i) old e ∙ ap (λ (z : List ℕ). over z old) (sym (flat_more f i))))

  pub over_flat_end : (i n : ℕ) (s old : List ℕ) → i ≡ n → s ≡ over (flat f i) old → length old ≡ length (flat f n) → s ≡ flat f n
  over_flat_end i n s old k h e = (rw k at h) ∙ over_whole (flat f n) old e

append_five : (a b c d e : List ℕ) → (((a ++ b) ++ c) ++ d) ++ e ≡ a ++ (b ++ (c ++ (d ++ e)))
append_five a b c d e = simp append_assoc

-- the six parts of a round, one behind the other, are the round
module _ (t : Tables) (p : Proper t) (n m q : ℕ) (n_is : n ≡ applicants t) (m_is : m ≡ workshops t) (q_is : q ≡ 4 + m + 3 * n + length t.entries) where
  pub encode_put : (o o₁ o₂ o₃ o₄ o₅ o₆ : List ℕ) → o₁ ≡ put 0 (two_bytes n) o → o₂ ≡ put 2 (two_bytes m) o₁ →
      o₃ ≡ put 4 (table (places_at t) (workshops t)) o₂ → o₄ ≡ put (4 + m) (flat (record_bytes t) (applicants t)) o₃ →
      o₅ ≡ put q (two_bytes (rows t)) o₄ → o₆ ≡ put (q + 2) (flat (sheet_bytes t) (workshops t)) o₅ → o₆ ≡ over (encode t) o
  unfolding encode
  encode_put o o₁ o₂ o₃ o₄ o₅ o₆ h₁ h₂ h₃ h₄ h₅ h₆ =
      let places = table (places_at t) (workshops t) in
      let records = flat (record_bytes t) (applicants t) in
      let sheets = flat (sheet_bytes t) (workshops t) in
      let head = two_bytes n ++ two_bytes m in
      let len_places = length_table (places_at t) (workshops t) in
      let len_records = length_records t p (applicants t) (omega arith) in
      let j₂ = put_more 0 2 (two_bytes n) (two_bytes m) o₁ o₂ o (omega arith) refl h₁ h₂ in
      let j₃ = put_more 0 4 head places o₂ o₃ o (omega arith) refl j₂ h₃ in
      let l₃ = length-append head places in
      let j₄ = put_more 0 (4 + m) (head ++ places) records o₃ o₄ o (omega arith) (omega arith) j₃ h₄ in
      let l₄ = length-append (head ++ places) records in
      let j₅ = put_more 0 q ((head ++ places) ++ records) (two_bytes (rows t)) o₄ o₅ o (omega arith) (omega (arith, p.started.4)) j₄ h₅ in
      let l₅ = length-append ((head ++ places) ++ records) (two_bytes (rows t)) in
      let j₆ = put_more 0 (q + 2) (((head ++ places) ++ records) ++ two_bytes (rows t)) sheets o₅ o₆ o (omega arith) (omega (arith, p.started.4)) j₅ h₆ in
      let all = (((head ++ places) ++ records) ++ two_bytes (rows t)) ++ sheets in
      let rest = places ++ (records ++ (two_bytes (rows t) ++ sheets)) in
      let same : all ≡ encode t =
      append_five head places records (two_bytes (rows t)) sheets ∙ ap₂ (λ (x y : ℕ). two_bytes x ++ (two_bytes y ++ rest)) n_is m_is
      in
      j₆ ∙ (put_front all o ∙ ap (λ (x : List ℕ). over x o) same)

-- the answer, where there is room for `size` bytes and where there is not
module _ (t : Tables) (p : Proper t) (size : ℕ) (out : List ℕ) (size_is : size ≡ length (encode t)) where
  pub write_refused : length out < size →
      ◌≡◌ {A = Result ℕ Refusal} (Err (NoRoom RoundTables)) (outcome (refuse (ltb (length out) (length (encode t))) (NoRoom RoundTables)) (length (encode t)))
  write_refused l = rw (← size_is, lt-ltb (length out) size l)

  pub write_answer : size ≤ length out →
      ◌≡◌ {A = Result ℕ Refusal} (Ok size) (outcome (refuse (ltb (length out) (length (encode t))) (NoRoom RoundTables)) (length (encode t)))
  write_answer l = rw (← size_is, le-ltb (length out) size l)
