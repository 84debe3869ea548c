-- Where the rows of each workshop begin, found while the rows go by in order: before row i is filled, the starts up to its workshop
-- are known to be i.
use Rattle.std.proofs.Common.{◌≡◌, ℕ, zero, suc, ◌+◌, ◌-◌, ◌<◌, ◌≤◌, List, ◌++◌, replicate, None, sym, refl, ap, ◌∙◌, ⊎_elim, add-one, arith}
use Rattle.std.proofs.lemmas.List.{get_or-replicate, length-replicate, length-append, get_or_append_left, get_or-append_right}
use Rattle.std.proofs.lemmas.Bool.{cases_lt}
use Rattle.layout.specs.Slices.{over, table}
use Rattle.layout.specs.Bytes.{byte, workshops_in, rows_in, row_at, row_workshop_in, rows_before, fault}
use Rattle.layout.proofs.Clean.{clean_from_none}
use Rattle.layout.proofs.Flats.{length_table, getD_table, is_table}
use Rattle.layout.proofs.Offsets.{rows_before_le}
use Rattle.layout.proofs.ReadProper.{rows_by_workshop}
use Rattle.layout.proofs.Rows.{rows_before_below, rows_before_above}
use Rattle.codec.specs.Puts.{put}
use Rattle.codec.proofs.Puts.{put_over}

-- the first workshop whose start is not known before row i
unfoldable pub next_open : List ℕ → ℕ → ℕ
next_open b zero = 0
next_open b (suc i) = row_workshop_in b i + 1

module _ (b : List ℕ) where
  pub next_open_none : next_open b 0 ≡ 0
  unfolding next_open
  next_open_none = refl

  pub next_open_more : (i : ℕ) → next_open b (i + 1) ≡ row_workshop_in b i + 1
  unfolding next_open
  next_open_more i = ap (λ (k : ℕ). next_open b k) (add-one i)

module _ (b : List ℕ) (none : fault b ≡ None) where
  next_open_small : (i : ℕ) → i ≤ rows_in b → next_open b i ≤ workshops_in b
  unfolding next_open
  next_open_small zero l = omega arith
  next_open_small (suc i) l = omega (arith, (clean_from_none b none).rows_workshop i l)

  next_open_rises : (i : ℕ) → i < rows_in b → next_open b i ≤ row_workshop_in b i + 1
  unfolding next_open
  next_open_rises zero l = omega arith
  next_open_rises (suc i) l =
      let s = rows_by_workshop b (clean_from_none b none) i (omega arith) in
      omega (arith, rw (add-one i) at s)

  -- at least i rows are of workshops before w, where the rows before i are
  past : (i w : ℕ) → i ≤ rows_in b → next_open b i ≤ w → i ≤ rows_before b w (rows_in b)
  unfolding next_open
  past zero w l h = omega arith
  past (suc i) w l h = rows_before_below b (rows_in b) (rows_by_workshop b (clean_from_none b none)) w i l (omega arith)

  opens : (i w : ℕ) → i < rows_in b → next_open b i ≤ w → w ≤ row_workshop_in b i → rows_before b w (rows_in b) ≡ i
  opens i w l h k =
      omega (arith, past i w (omega arith) h, rows_before_above b (rows_in b) (rows_by_workshop b (clean_from_none b none)) w i l k)

  closes : (w : ℕ) → next_open b (rows_in b) ≤ w → rows_before b w (rows_in b) ≡ rows_in b
  closes w h = omega (arith, past (rows_in b) w (omega arith) h, rows_before_le b w (rows_in b))

-- row i, by its place and by the first workshop whose start is not known
module _ (b : List ℕ) (none : fault b ≡ None) (i rows at : ℕ) (many : rows ≡ rows_in b) (l : i < rows) (place : at ≡ row_at b i) where
  pub sheet_small : byte b at + 1 ≤ workshops_in b
  sheet_small = rw place (omega (arith, (clean_from_none b none).rows_workshop i (omega arith)))

  module _ (next : ℕ) (open_is : next ≡ next_open b i) where
    pub sheet_order : next ≤ byte b at + 1
    sheet_order = rw place (omega (arith, next_open_rises b none i (omega arith)))

    pub sheet_opens : (k : ℕ) → next ≤ k → k < byte b at + 1 → rows_before b k rows ≡ i
    sheet_opens k h s = rw many (opens b none i k (omega arith) (omega arith) (let t = rw place at s in omega arith))

-- and after the last row
module _ (b : List ℕ) (none : fault b ≡ None) (i rows next : ℕ) (many : rows ≡ rows_in b) (ends : i ≡ rows) (open_is : next ≡ next_open b i) where
  all_open : next ≡ next_open b (rows_in b)
  all_open = open_is ∙ ap (λ (k : ℕ). next_open b k) (ends ∙ many)

  pub last_small : next ≤ workshops_in b
  last_small = omega (arith, all_open, next_open_small b none (rows_in b) (omega arith))

  pub last_opens : (k : ℕ) → next ≤ k → rows_before b k rows ≡ rows
  last_opens k h = rw many (closes b none k (omega (arith, all_open)))

-- the same number from `next` up to `until`, behind the table up to `next`
table_level : (f : ℕ → ℕ) (next until i : ℕ) → next ≤ until → ((k : ℕ) → next ≤ k → k < until → f k ≡ i) →
    table f next ++ replicate (until - next) i ≡ table f until
table_level f next until i l h =
    let n = length_table f next in
    let m = length-replicate (until - next) i in
    is_table f (table f next ++ replicate (until - next) i) until 0 (omega (arith, length-append (table f next) (replicate (until - next) i)))
    (λ k s.
    ⊎_elim
    (λ (p : k < next). get_or_append_left (table f next) (replicate (until - next) i) 0 k (omega arith) ∙ getD_table f next k 0 p)
    (λ (p : next ≤ k).
    get_or-append_right (table f next) (replicate (until - next) i) next k 0 n p ∙ (get_or-replicate (until - next) (k - next) i 0 (omega arith) ∙ sym (h k p s)))
    (cases_lt k next))

pub over_level : (f : ℕ → ℕ) (next until i : ℕ) (s t old : List ℕ) → next ≤ until → ((k : ℕ) → next ≤ k → k < until → f k ≡ i) →
    s ≡ over (table f next) old → t ≡ put next (replicate (until - next) i) s → t ≡ over (table f until) old
over_level f next until i s t old l h e g =
    rw e at g
    ∙ (put_over next (table f next) (replicate (until - next) i) old (length_table f next)
    ∙ ap (λ (z : List ℕ). over z old) (table_level f next until i l h))
