-- The list of a record, judged by its place: the same as judged by the applicant.
use Rattle.std.proofs.Common.{◌≡◌, ℕ, zero, suc, ◌+◌, ◌<◌, ◌≤◌, Bool, true, false, ◌||◌, eqb, List, length, get_or, set, replicate, Some, None, Err, Result, refl, ap, ◌∙◌, add-one, arith}
use mathlib.Core.Path.{fun_ext}
use Rattle.std.proofs.lemmas.List.{get_or-replicate, get_or-set_same, get_or-set_other}
use Rattle.std.proofs.lemmas.Bool.{cases_eq}
use Rattle.std.proofs.lemmas.Bool.Decides.{nat_tests}
use Rattle.layout.specs.Slices.{outcome, or_else}
use Rattle.layout.specs.Bytes.{byte, word, first_of, record_at, workshops_in, missing, refuse, entry_in, entry_seen, entry_fault, lot_in, lot_seen, record_fault}
use Rattle.layout.specs.declared.Refusal.{Refusal}
use Rattle.layout.specs.declared.Refusal.TheVariants.{Short, LotTaken}
use Rattle.codec.specs.declared.bytes.Reader.{Reader}
use Rattle.codec.specs.Readers.{Stands, there, stands_in, entry_fault_at, list_fault_at, record_fault_at}
use Rattle.codec.proofs.Firsts.{got_there}
use Rattle.layout.proofs.Firsts.{first_of_at}
use Rattle.layout.proofs.Offsets.{record_at_more}

-- the count is there and no more than the most, so the first entry at fault is the list's fault
pub list_refused : (b : List ℕ) (m at j : ℕ) (e : Refusal) → at + 1 ≤ length b → byte b at ≤ 20 → j < byte b at →
    first_of (entry_fault_at b m at) j ≡ None → entry_fault_at b m at j ≡ Some e → ◌≡◌ {A = Result (Unit {0}) Refusal} (Err e) (outcome (list_fault_at b m at) tt)
list_refused b m at j e l k i h g = let s = first_of_at (entry_fault_at b m at) (byte b at) j e h g i in grind (arith, nat_tests)

module _ (b : List ℕ) (a : ℕ) where
  entry_seen_is : (w j : ℕ) → entry_seen b a w j ≡ stands_in b (record_at b a + 3) w j
  unfolding entry_seen stands_in
  entry_seen_is w zero = refl
  entry_seen_is w (suc j) = ap (λ t. eqb (entry_in b a j) w || t) (entry_seen_is w j)

  three : (x : ℕ) → x + 2 + 1 ≡ x + 3
  three x = omega arith

  entry_fault_is : entry_fault b a ≡ entry_fault_at b (workshops_in b) (record_at b a + 2)
  entry_fault_is = fun_ext λ j. rw (entry_seen_is, three) refl

  -- a's record by its place
  pub record_fault_is : record_fault b a ≡
      or_else (missing b (record_at b a) 2)
      (or_else (refuse (lot_seen b (word b (record_at b a)) a) (LotTaken (record_at b a))) (list_fault_at b (workshops_in b) (record_at b a + 2)))
  record_fault_is = rw entry_fault_is

  -- what judges the record, where its lot is missing and where it is there
  pub record_short : length b < record_at b a + 2 → record_fault b a ≡ Some (Short (length b))
  record_short l = rw record_fault_is grind (arith, nat_tests)

  -- by the lot that was read, and an array of flags that says which lots the applicants before a have
  pub record_by_flags : {r : Reader} {m x lot : ℕ} (seen : List Bool) → Stands r b (record_at b a) → m ≡ workshops_in b →
      Some x ≡ there r.bytes.now r.at 2 (word r.bytes.now r.at) → lot ≡ x → lot < 65536 →
      ((v : ℕ) → v < 65536 → get_or seen v false ≡ lot_seen b v a) → record_fault b a ≡ record_fault_at b m (get_or seen lot false) (record_at b a)
  record_by_flags seen s em l ex k h =
      let g = got_there _ _ _ _ _ (rw (s.same, s.place) at l) in
      rw (record_fault_is, em, h _ k, ex ∙ g.1) (grind (arith, nat_tests))

  -- where the next record begins
  pub record_after : (at : ℕ) → at ≡ record_at b a → record_at b (a + 1) ≡ at + 3 + byte b (at + 2)
  record_after at place = rw place (record_at_more b a)

-- an array of n flags that says f, and one flag more raised
flag_more : (n x : ℕ) (seen : List Bool) (f : ℕ → Bool) → length seen ≡ n → x < n → ((v : ℕ) → v < n → get_or seen v false ≡ f v) →
    (v : ℕ) → v < n → get_or (set seen x true) v false ≡ (eqb x v || f v)
flag_more n x seen f m l h v k =
    let old = h v k in
    let w = get_or-set_same seen x true false in
    let o = get_or-set_other seen x v true false in
    let s = cases_eq v x in grind (arith, nat_tests)

-- the array of the lots seen: what it says before any applicant, and after one more
pub seen_none : (b : List ℕ) (v : ℕ) → v < 65536 → get_or (replicate 65536 false) v false ≡ lot_seen b v 0
unfolding lot_seen
seen_none b v l = get_or-replicate 65536 v false false l

pub seen_more : (b : List ℕ) (a lot : ℕ) (seen : List Bool) → length seen ≡ 65536 → lot ≡ lot_in b a → lot < 65536 →
    ((v : ℕ) → v < 65536 → get_or seen v false ≡ lot_seen b v a) → (v : ℕ) → v < 65536 → get_or (set seen lot true) v false ≡ lot_seen b v (a + 1)
unfolding lot_seen
seen_more b a lot seen n e l h v k = let s = flag_more 65536 lot seen (λ u. lot_seen b u a) n l h v k in rw (add-one a) (cc)

-- the array of the entries seen of the list that begins at a place, likewise
module _ (b : List ℕ) («from» : ℕ) where
  pub stands_none : (v : ℕ) → v < 256 → get_or (replicate 256 false) v false ≡ stands_in b «from» v 0
  unfolding stands_in
  stands_none v l = get_or-replicate 256 v false false l

  pub stands_more : (j w : ℕ) (seen : List Bool) → length seen ≡ 256 → w ≡ byte b («from» + j) → w < 256 →
      ((v : ℕ) → v < 256 → get_or seen v false ≡ stands_in b «from» v j) → (v : ℕ) → v < 256 → get_or (set seen w true) v false ≡ stands_in b «from» v (j + 1)
  unfolding stands_in
  stands_more j w seen n e l h v k = let s = flag_more 256 w seen (λ u. stands_in b «from» u j) n l h v k in rw (add-one j) (cc)
