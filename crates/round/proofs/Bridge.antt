-- The given step-by-step definitions are those of the round's market. The given `refused` looks at those who ask now; where all who
-- have passed a workshop were rightly turned down there, this is the same as being turned down out of all who have asked.
use Rattle.std.proofs.Common.{◌≡◌, ℕ, zero, suc, ◌+◌, ◌<◌, true, eqb, List, [], ◌∷◌, length, get_or, sym, refl, ap, ◌∙◌, subst, inl, inr, arith}
use mathlib.Core.Path.{fun_ext}
use lib.ListN.{get_or-eq_default}
use Rattle.std.proofs.lemmas.Bool.Decides.{same_from_decides, Decides-eqb}
use Rattle.std.proofs.lemmas.Bool.{lt-ltb, le-ltb, and_left, cond-true, cond-false, cases_lt}
use Rattle.round.specs.Places.{Round, point, nowhere, ahead, refused, steps, total, result}
use Rattle.round.specs.Places.{asked as asks_now}
use Rattle.round.specs.Promise.{Proper, rank}
use Rattle.round.specs.Market.{Listed, Justified, asked, here, turned, move, run, final, entries, asks, asks_at, got, held, count, sum}
use Rattle.round.specs.ByPoints.{wish_of, market_of, ahead_of}
use Rattle.round.specs.Office.{asks_of, asks_from, ByMarket}
use Rattle.round.proofs.Askers.{here_from, here_parts, here_within, turned_parts, irc}
use Rattle.round.proofs.Best.{not_kept}
use Rattle.round.proofs.Ranks.{listed_by_rank, market_lawful}
use Rattle.round.proofs.Ending.{length_steps, getD_steps_none, getD_steps_more}
use Rattle.round.proofs.Stability.{kept_here}
use Rattle.round.proofs.Ends.{run_reached, reached_justified}

-- a list of positions as a state
abbrev pub state_of : List ℕ → ℕ → ℕ
state_of at a = get_or at a 0

-- a sum without its first
sum_first : (f : ℕ → ℕ) (n : ℕ) → sum f (suc n) ≡ f 0 + sum (λ a. f (suc a)) n
unfolding sum
sum_first f zero = refl
sum_first f (suc n) = let ih = sum_first f n in omega arith

-- the given number of entries
pub total_sum : (ls : List (List ℕ)) → total ls ≡ sum (λ a. length (get_or ls a [])) (length ls)
unfolding total sum
total_sum [] = refl
total_sum (l ∷ ls) = ap (λ (t : ℕ). length l + t) (total_sum ls) ∙ sym (sum_first (λ a. length (get_or (l ∷ ls) a [])) (length ls))

module _ (r : Round) (ok : Proper r) where
  -- whoever asks p now stands in its list at p
  pub asks_here : (at : List ℕ) (p b : ℕ) → p < nowhere r → eqb (asks_now r at b) p ≡ here (wish_of r) (state_of at) p b
  unfolding asks_now wish_of nowhere
  asks_here at p b h =
      same_from_decides {P = asks_now r at b ≡ p} _ _ (Decides-eqb _ p)
      (λ t. let i = here_parts (wish_of r) (state_of at) p b t in rw i.0 at (listed.back b p i.1), there)
    where
      listed : Listed (length r.lists) (length r.places) (wish_of r)
      listed = listed_by_rank r ok

      there : asks_now r at b ≡ p → here (wish_of r) (state_of at) p b ≡ true
      there e =
          elim (cases_lt (get_or at b 0) (length (get_or r.lists b []))) [
            | inl l ↦
                let i : rank (get_or r.lists b []) p ≡ get_or at b 0 = rw e at (listed.there b (get_or at b 0) l) in
                here_from (wish_of r) (state_of at) p b i (omega arith)
            | inr l ↦ let past = get_or-eq_default (get_or r.lists b []) (nowhere r) l in absurd (omega arith)
          ]

  -- the given number of those ahead is counted over those who ask p now
  pub ahead_here : (at : List ℕ) (p a : ℕ) → p < nowhere r → (n : ℕ) → ahead r at p a n ≡ ahead_of (point r) n p (here (wish_of r) (state_of at) p) a
  unfolding ahead ahead_of count
  ahead_here at p a h zero = refl
  ahead_here at p a h (suc n) = let ih = ahead_here at p a h n in let e = asks_here at p n h in grind arith

  -- out of those who ask p now the same are kept as out of all who have asked, where all who passed p were rightly turned down
  pub keeps_here : (s : ℕ → ℕ) → Justified (market_of r) s → (p a : ℕ) → a < length r.lists → (market_of r).keeps p (here (wish_of r) s p) a ≡ (market_of r).keeps p (asked (wish_of r) s p) a
  unfolding market_of
  keeps_here s just p =
      irc (market_lawful r ok).way p _ _ (here_within (wish_of r) s p) (kept_here (market_of r) (market_lawful r ok) s just p)

  -- the given `refused` says who is turned down
  pub refused_turned : (at : List ℕ) → Justified (market_of r) (state_of at) → (a : ℕ) → a < length r.lists → refused r at a ≡ turned (market_of r) (state_of at) a
  unfolding refused turned market_of wish_of nowhere asks_now
  refused_turned at just a h =
      elim (cases_lt (get_or at a 0) (length (get_or r.lists a []))) [
        | inl l ↦
            let p = asks_now r at a in
            let small : p < nowhere r = (listed_by_rank r ok).small a (get_or at a 0) l in
            let now = here_from (wish_of r) (state_of at) p a ((listed_by_rank r ok).there a (get_or at a 0) l) (let e = (listed_by_rank r ok).there a (get_or at a 0) l in omega arith) in
            let same = keeps_here (state_of at) just p a h in
            let out = not_kept (λ q. get_or r.places q 0) (point r) (length r.lists) p (here (wish_of r) (state_of at) p) a now in
            let many = ahead_here at p a small (length r.lists) in
            let t1 = lt-ltb p (nowhere r) small in
            let t2 = lt-ltb (get_or at a 0) (length (get_or r.lists a [])) l in
            cc
        | inr l ↦
            let past : asks_now r at a ≡ nowhere r = get_or-eq_default (get_or r.lists a []) (nowhere r) l in
            and_left _ _ (le-ltb (asks_now r at a) (nowhere r) (omega arith)) ∙ sym (and_left _ _ (le-ltb (get_or at a 0) (length (get_or r.lists a [])) l))
      ]

  -- so a given step is one of the market
  pub steps_move : (t : ℕ) → Justified (market_of r) (state_of (steps r t)) → (a : ℕ) → get_or (steps r (suc t)) a 0 ≡ move (market_of r) (state_of (steps r t)) a
  unfolding move market_of
  steps_move t just a =
      elim (cases_lt a (length r.lists)) [
        | inl l ↦
            let same = refused_turned (steps r t) just a l in
            let more = getD_steps_more r t a l in
            grind arith
        | inr l ↦
            let past = λ (t : ℕ). get_or-eq_default (steps r t) 0 {n = a} (let e = length_steps r t in omega arith) in
            let before = past t in
            let after = past (suc t) in
            let none = (market_lawful r ok).listed.outside a l in
            let busy = turned_parts (market_of r) (state_of (steps r t)) a in
            grind arith
      ]

  -- and all given steps are the market's
  pub steps_run : (t : ℕ) → ◌≡◌ {A = ℕ → ℕ} (state_of (steps r t)) (run (market_of r) t)
  unfolding run
  steps_run zero = fun_ext (getD_steps_none r)
  steps_run (suc t) =
      let ih = steps_run t in
      let just = subst (λ (s : ℕ → ℕ). Justified (market_of r) s) (sym ih) (reached_justified (market_of r) (market_lawful r ok) _ (run_reached (market_of r) t)) in
      fun_ext (steps_move t just) ∙ ap {B = ℕ → ℕ} (λ (s : ℕ → ℕ). move (market_of r) s) ih

  -- they end where the market ends
  pub steps_final : ◌≡◌ {A = ℕ → ℕ} (state_of (steps r (total r.lists))) (final (market_of r))
  unfolding final entries market_of wish_of
  steps_final = steps_run (total r.lists) ∙ ap {B = ℕ → ℕ} (λ (t : ℕ). run (market_of r) t) (total_sum r.lists)

  -- what somebody asks at a state of the market is what it holds there
  pub asks_held : (at : List ℕ) (a : ℕ) → asks_now r at a ≡ held (market_of r) (state_of at) a
  unfolding asks_now held market_of wish_of nowhere
  asks_held at a =
      elim (cases_lt (get_or at a 0) (length (get_or r.lists a []))) [
        | inl l ↦ sym (cond-true _ _ _ (lt-ltb (get_or at a 0) (length (get_or r.lists a [])) l))
        | inr l ↦
            get_or-eq_default (get_or r.lists a []) (nowhere r) l
            ∙ sym (cond-false _ _ _ (le-ltb (get_or at a 0) (length (get_or r.lists a [])) l))
      ]

  -- the given result is what everybody has at the end
  pub result_got : (a : ℕ) → result r a ≡ got (market_of r) a
  unfolding result got
  result_got a = asks_held (steps r (total r.lists)) a ∙ ap {B = ℕ} (λ (s : ℕ → ℕ). held (market_of r) s a) steps_final

  -- and the asks are as many
  pub asks_same : asks_of r ≡ asks (market_of r)
  unfolding asks_of asks_from asks asks_at market_of wish_of
  asks_same = ap {B = ℕ} (λ (s : ℕ → ℕ). asks_at (market_of r) s) steps_final

pub by_market : ByMarket
unfolding ByMarket
by_market r ok = (market_lawful r ok, λ t a. ap {B = ℕ} (λ (s : ℕ → ℕ). s a) (steps_run r ok t), result_got r ok, asks_same r ok)
