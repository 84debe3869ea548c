-- Where the filling of the tables reads and writes: within the bytes and within the slices, since the bytes have no fault.
use Rattle.std.proofs.Common.{◌≡◌, ℕ, ◌+◌, ◌-◌, ◌*◌, ◌<◌, ◌≤◌, List, ◌++◌, length, get_or, take, drop, None, sym, ap, ◌∙◌, ap₂, arith}
use Rattle.std.proofs.lemmas.List.{get_or-take, get_or-drop, get_or_append_left, length-append, length-take-le, length-drop, drop_at, drop-drop}
use Rattle.layout.specs.Slices.{over, table}
use Rattle.layout.specs.Bytes.{byte, word, applicants_in, record_at, count_in, entry_in, start_of, entries_below, fault}
use Rattle.layout.proofs.Clean.{clean_from_none}
use Rattle.layout.proofs.Flats.{flat_more, is_table}
use Rattle.layout.proofs.Offsets.{record_at_more, record_at_mono, start_of_more, start_of_mono, length_entries_below}
use Rattle.codec.specs.Puts.{put}
use Rattle.codec.proofs.Puts.{put_over, length_part}

-- a part of the bytes: each byte, and all of them
pub part_byte : (b : List ℕ) (p e j : ℕ) → j < e - p → get_or (take (e - p) (drop p b)) j 0 ≡ byte b (p + j)
part_byte b p e j l = get_or-take (e - p) (drop p b) j 0 l ∙ get_or-drop p b j 0

pub part_bytes : (b : List ℕ) (p e n : ℕ) → p + n ≡ e → e ≤ length b → take (e - p) (drop p b) ≡ table (λ (j : ℕ). byte b (p + j)) n
part_bytes b p e n h l =
    let len = length-take-le (e - p) (drop p b) (omega (arith, length-drop p b)) in
    is_table (λ (j : ℕ). byte b (p + j)) (take (e - p) (drop p b)) n 0 (omega arith) (λ k s. part_byte b p e k (omega arith))

module _ (b : List ℕ) (none : fault b ≡ None) (a n : ℕ) (many : n ≡ applicants_in b) (l : a < n) (at : ℕ) (place : at ≡ record_at b a) where
  -- a's record, its count and where its list goes
  pub record_within : at + 3 + byte b (at + 2) ≤ length b
  record_within =
      rw place
      (omega (arith, record_at_more b a, record_at_mono b (a + 1) (applicants_in b) (omega arith), (clean_from_none b none).whole))

  pub few_entries : byte b (at + 2) ≤ 20
  few_entries = rw place ((clean_from_none b none).few_entries a (omega arith))

  pub start_within : start_of b a + byte b (at + 2) ≤ start_of b n
  start_within = rw place (omega (arith, start_of_more b a, start_of_mono b (a + 1) n (omega arith)))

  -- one list more
  pub entries_more : (s t old : List ℕ) (start : ℕ) → start ≡ start_of b a → s ≡ over (entries_below b a) old →
      t ≡ put start (table (λ (j : ℕ). byte b (at + 3 + j)) (byte b (at + 2))) s → t ≡ over (entries_below b (a + 1)) old
  entries_more s t old start e h g =
      g
      ∙ (ap (λ (z : List ℕ). put start (table (λ (j : ℕ). byte b (at + 3 + j)) (byte b (at + 2))) z) h
      ∙ (put_over start (entries_below b a) (table (λ (j : ℕ). byte b (at + 3 + j)) (byte b (at + 2))) old (length_entries_below b a ∙ sym e)
      ∙ ap (λ (z : List ℕ). over z old)
      (rw place (sym (flat_more (λ (c : ℕ). table (entry_in b c) (count_in b c)) a)))))

-- row i, as the chunk of five bytes that comes when i rows are gone over, and what is left behind it
module _ (b : List ℕ) («from» n i : ℕ) (row rest : List ℕ) (there : «from» + 5 * n ≤ length b)
    (turn : drop (5 * i) (take («from» + 5 * n - «from») (drop «from» b)) ≡ row ++ rest) (five : length row ≡ 5) where
  abbrev pub all_rows : List ℕ
  all_rows = take («from» + 5 * n - «from») (drop «from» b)

  pub row_before : i < n
  row_before =
      omega (arith, ap (λ (x : List ℕ). length x) turn, length-append row rest, length-drop (5 * i) all_rows, length_part «from» («from» + 5 * n) b there)

  pub row_byte : (j : ℕ) → j < 5 → get_or row j 0 ≡ byte b («from» + 5 * i + j)
  row_byte j l =
      let before = row_before in
      sym (get_or_append_left row rest 0 j (omega arith))
      ∙ (ap (λ (x : List ℕ). get_or x j 0) (sym turn)
      ∙ (get_or-drop (5 * i) all_rows j 0
      ∙ (part_byte b «from» («from» + 5 * n) (5 * i + j) (omega arith) ∙ ap (λ (x : ℕ). byte b x) (omega arith))))

  pub row_word : (j : ℕ) → j < 4 → word row j ≡ word b («from» + 5 * i + j)
  row_word j l = ap₂ (λ (x y : ℕ). x + 256 * y) (row_byte j (omega arith)) (row_byte (j + 1) (omega arith) ∙ ap (λ (x : ℕ). byte b x) (omega arith))

  pub rows_left : rest ≡ drop (5 * (i + 1)) all_rows
  rows_left =
      sym (drop_at row rest 5 five)
      ∙ (ap (λ (x : List ℕ). drop 5 x) (sym turn) ∙ (drop-drop 5 (5 * i) all_rows ∙ ap (λ (x : ℕ). drop x all_rows) (omega arith)))
