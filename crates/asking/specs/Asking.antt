-- How far asking one after the other has come: in any market, and in the slices of a run. Definitions only.
use Rattle.std.specs.Prelude.{◌≡◌, ℕ, ◌+◌, ◌-◌, ◌<◌, ◌≤◌, min, Bool, true, false, cond, ◌&&◌, ◌≢◌, List, length, take, drop, Some, None, Option, ◌==◌, nat_lt, slice_index, slice_set}
use Rattle.std.specs.List.{between}
use Rattle.layout.specs.Tables.{Tables, applicants, workshops, list_length}
use Rattle.round.specs.Market.{Wish, Market, Reached, sum}
use Rattle.points.specs.Standing.{market}
use Rattle.asking.specs.Ended.{bench_of}
use Rattle.bench.specs.declared.Answer.{Answer}
use Rattle.bench.specs.declared.Answer.TheVariants.{Kept, Displaced, TurnedDown}

-- whoever has asked p, where u says how many entries each has asked
unfoldable pub gone : Wish → (ℕ → ℕ) → ℕ → ℕ → Bool
gone w u p c = nat_lt (w.pos c p) (u c) && nat_lt (w.pos c p) (w.len c)

-- d is the entry that each applicant has come to; u how many entries each has asked: d + 1 of those who have settled, d of the one
-- who asks now and of those who have not begun. settled: whoever has settled is kept out of all who have asked; passed: whoever has
-- passed a workshop is not
pub record Going (k : Market) (d u : ℕ → ℕ) : Type 0 where
  pub reached : Reached k d
  pub near : (c : ℕ) → (d c ≤ u c) × (u c ≤ d c + 1)
  pub settled : (c : ℕ) → u c ≡ d c + 1 → d c < k.wish.len c → k.keeps (k.wish.entry c (d c)) (gone k.wish u (k.wish.entry c (d c))) c ≡ true
  pub passed : (p c : ℕ) → k.wish.pos c p < k.wish.len c → k.wish.pos c p < d c → k.keeps p (gone k.wish u p) c ≡ false

-- The lent slice of results holds how many entries each has asked, one more than its list has where it is used up.
unfoldable pub counts : Tables → List ℕ → ℕ → ℕ
counts t results c = slice_index (take (applicants t) results) c

-- the entries come to, where everybody has settled or not begun; and where b asks now
unfoldable pub at_rest : Tables → List ℕ → ℕ → ℕ
at_rest t results c = counts t results c - 1

unfoldable pub but_for : Tables → List ℕ → ℕ → ℕ → ℕ
but_for t results b c = cond (c == b) (counts t results c) (at_rest t results c)

-- where each ends, once nobody asks any more: the entry come to, 255 where the list is used up; and how many it is not used up for
abbrev pub ends_at : Tables → List ℕ → ℕ → Bool
ends_at t results c = nat_lt (slice_index results c - 1) (list_length t c)

abbrev pub told_from : Tables → List ℕ → ℕ → ℕ
told_from t results c = cond (ends_at t results c) (slice_index results c - 1) 255

-- b asks once more
abbrev pub one_more : List ℕ → ℕ → List ℕ
one_more results b = slice_set results b (slice_index results b + 1)

-- the number of asks so far
unfoldable pub asks_so_far : Tables → List ℕ → ℕ
asks_so_far t results = sum (λ c. min (counts t results c) ((market t).wish.len c)) (applicants t)

-- what the slices hold: d is the entry that each has come to
pub record Asking (t : Tables) (d : ℕ → ℕ) (results benches : List ℕ) : Type 0 where
  pub going : Going (market t) d (counts t results)
  pub seated : (w : ℕ) → w < workshops t → between (slice_index t.seats w) (slice_index t.seats (w + 1)) benches ≡ bench_of t (gone (market t).wish (counts t results) w) w
  pub room : (applicants t ≤ length results) × (slice_index t.seats (workshops t) ≤ length benches)

-- after an ask: nobody has to ask on, or this applicant has
abbrev pub After : Tables → Option ℕ → List ℕ → List ℕ → Type 0
After t None results benches = Asking t (at_rest t results) results benches
After t (Some c) results benches = (c < applicants t) × (0 < slice_index results c) × Asking t (but_for t results c) results benches

-- who asks on after b's ask, by the answer to it
abbrev pub asks_on : Tables → ℕ → Answer → Option ℕ
asks_on t b Kept = None
asks_on t b (Displaced row) = Some (slice_index t.row_applicants row)
asks_on t b TurnedDown = Some b

-- what lies behind the results and the benches is as it was
pub record Behind (t : Tables) (results benches old_results old_benches : List ℕ) : Type 0 where
  pub results_behind : drop (applicants t) results ≡ drop (applicants t) old_results
  pub benches_behind : drop (slice_index t.seats (workshops t)) benches ≡ drop (slice_index t.seats (workshops t)) old_benches

-- before applicant a begins: all before it have settled or used up their lists, and nobody from it on has asked
pub record Resting (t : Tables) (results benches old_results old_benches : List ℕ) (a asks : ℕ) : Type 0 where
  pub asking : Asking t (at_rest t results) results benches
  pub begun : (c : ℕ) → c < a → 0 < slice_index results c
  pub later : (c : ℕ) → a ≤ c → c < applicants t → slice_index results c ≡ 0
  pub counted : asks ≡ asks_so_far t results
  pub behind : Behind t results benches old_results old_benches

-- while somebody asks: all up to a have begun but perhaps the asker, and nobody behind a has asked
pub record Waiting (t : Tables) (results benches old_results old_benches : List ℕ) (a asker asks : ℕ) : Type 0 where
  pub small : (asker < a + 1) × (a < applicants t)
  pub asking : Asking t (but_for t results asker) results benches
  pub begun : (c : ℕ) → c < a + 1 → c ≢ asker → 0 < slice_index results c
  pub later : (c : ℕ) → a < c → c < applicants t → slice_index results c ≡ 0
  pub counted : asks ≡ asks_so_far t results
  pub behind : Behind t results benches old_results old_benches
