-- The number of asks so far: one more with each ask, never more than there are entries.
use Rattle.std.proofs.Common.{◌≡◌, ℕ, zero, suc, ◌+◌, ◌*◌, ◌<◌, ◌≤◌, min, ◌≢◌, List, length, get_or, sym, ap, ◌∙◌, inl, inr, add-one, arith}
use Rattle.std.proofs.lemmas.Bool.{cases_eq}
use Rattle.layout.specs.Tables.{Tables, Proper, applicants, list_length, most_entries, most_applicants}
use Rattle.round.specs.Market.{sum, entries}
use Rattle.round.proofs.Count.{sum_mono, sum_same, sum_none}
use Rattle.points.specs.Standing.{market}
use Rattle.asking.specs.Asking.{counts, one_more, asks_so_far}
use Rattle.asking.proofs.Parts.{counts_at, counts_set_same, counts_set_other}
use Rattle.points.proofs.Theory.{market_n}
use Rattle.asking.proofs.Tabled.{market_len}

-- one more at b alone
pub sum_one_more : (f g : ℕ → ℕ) (b n : ℕ) → b < n → g b ≡ f b + 1 → ((c : ℕ) → c ≢ b → g c ≡ f c) → sum g n ≡ sum f n + 1
unfolding sum
sum_one_more f g b zero l e same = absurd (omega arith)
sum_one_more f g b (suc n) l e same =
    elim (cases_eq b n) [
      | inl i ↦
          let rest = sum_same g f n (λ c h. same c (omega arith)) in
          let here : g n ≡ f n + 1 = rw i at e in
          omega arith
      | inr ne ↦
          let rest = sum_one_more f g b n (omega arith) e same in
          let here = same n (omega arith) in
          omega arith
    ]

module _ (t : Tables) (ok : Proper t) where
  sum_lengths : (a : ℕ) → a ≤ applicants t → sum (list_length t) a ≡ get_or t.starts a 0
  unfolding sum
  sum_lengths zero h = sym ok.started.1
  sum_lengths (suc a) h =
      let before = sum_lengths a (omega arith) in
      let up = ok.started.2 a (omega arith) in
      let at : get_or t.starts (a + 1) 0 ≡ get_or t.starts (suc a) 0 = ap (λ (k : ℕ). get_or t.starts k 0) (add-one a) in
      omega arith

  sum_len : sum (market t).wish.len (applicants t) ≡ length t.entries
  sum_len = sum_same _ (list_length t) (applicants t) (λ a l. market_len t ok a l) ∙ sum_lengths (applicants t) (omega arith) ∙ ok.started.4

  pub entries_of_market : entries (market t) ≡ length t.entries
  unfolding entries
  entries_of_market = rw (market_n t) sum_len

  starts_few : (a : ℕ) → a ≤ applicants t → get_or t.starts a 0 ≤ most_entries * a
  starts_few zero h = omega (arith, ok.started.1)
  starts_few (suc a) h =
      let before = starts_few a (omega arith) in
      let up = ok.started.3 a (omega arith) in
      let at : get_or t.starts (a + 1) 0 ≡ get_or t.starts (suc a) 0 = ap (λ (k : ℕ). get_or t.starts k 0) (add-one a) in
      omega arith

  -- there are not too many to count
  pub few_entries : length t.entries ≤ most_entries * most_applicants
  few_entries = omega (arith, starts_few (applicants t) (omega arith), ok.started.4, ok.limited.0)

  pub asks_few : (results : List ℕ) → asks_so_far t results ≤ length t.entries
  unfolding asks_so_far
  asks_few results =
      let all = sum_len in
      let most = sum_mono (λ c. min (counts t results c) ((market t).wish.len c)) (market t).wish.len (applicants t) (λ c _. omega arith) in
      omega arith

  pub asks_none : (results : List ℕ) → ((c : ℕ) → c < applicants t → get_or results c 0 ≡ 0) → asks_so_far t results ≡ 0
  unfolding asks_so_far
  asks_none results fresh =
      sum_same _ (λ _. 0) (applicants t) (λ c l. let e = counts_at t results c l in let f = fresh c l in omega arith) ∙ sum_none (applicants t)

  module _ (results : List ℕ) (b : ℕ) (small : b < applicants t) (room : applicants t ≤ length results) where
    -- an ask
    pub asks_one_more : get_or results b 0 < list_length t b → asks_so_far t (one_more results b) ≡ asks_so_far t results + 1
    unfolding asks_so_far
    asks_one_more l =
        let len = market_len t ok b small in
        let before = counts_at t results b small in
        let now = counts_set_same t results b (get_or results b 0 + 1) small room in
        sum_one_more _ _ b (applicants t) small (omega arith) (λ c ne. ap (λ (x : ℕ). min x ((market t).wish.len c)) (counts_set_other t results b (get_or results b 0 + 1) c ne))

    -- a list that is used up
    pub asks_used_up : list_length t b ≤ get_or results b 0 → asks_so_far t (one_more results b) ≡ asks_so_far t results
    unfolding asks_so_far
    asks_used_up l =
        let len = market_len t ok b small in
        let before = counts_at t results b small in
        let now = counts_set_same t results b (get_or results b 0 + 1) small room in
        sum_same _ _ (applicants t)
        (λ c _.
        elim (cases_eq c b) [
          | inl e ↦ rw e (omega arith)
          | inr ne ↦ ap (λ (x : ℕ). min x ((market t).wish.len c)) (counts_set_other t results b (get_or results b 0 + 1) c ne)
        ])
