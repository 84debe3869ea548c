-- The round of the theory that proper tables are is proper, and what its market says in the words of the tables.
use Rattle.std.proofs.Common.{◌≡◌, ℕ, ◌+◌, ◌<◌, ◌≤◌, Bool, ◌&&◌, ltb, List, [], length, get_or, sym, ap, ◌∙◌, inl, inr, arith}
use Rattle.std.proofs.lemmas.Bool.{cases_lt, cases_order}
use Rattle.std.proofs.lemmas.List.{get_or_past, get_or_default}
use Rattle.layout.specs.Slices.{table}
use Rattle.layout.specs.Tables.{Tables, Proper, applicants, workshops, places_at, list_at, list_length}
use Rattle.layout.proofs.Flats.{length_table, getD_table}
pub use Rattle.layout.proofs.OfProper.{length_list_at}
use Rattle.layout.proofs.OfProper as proper
use Rattle.layout.proofs.Seen.{no_repeat_apart}
use Rattle.round.specs.Places as places
use Rattle.round.specs.Promise as promise
use Rattle.round.specs.Market.{count}
use Rattle.round.specs.ByPoints.{market_of, wish_of, keeps_best, ahead_of}
use Rattle.round.proofs.Count.{count_same}
use Rattle.points.specs.Standing.{worth, round_of, market}
use Rattle.points.proofs.Cursors.{starts_le}
use Rattle.points.proofs.Worths.{worth_same}

keeps_same : (x : Bool) (p q c d k l : ℕ) → p ≡ q → c ≡ d → k ≡ l → (x && (ltb 0 p && ltb c k)) ≡ (x && (ltb 0 q && ltb d l))
keeps_same x p q c d k l e f g = cc

module _ (t : Tables) where
  -- the parts of the round
  pub round_applicants : length (round_of t).lists ≡ applicants t
  unfolding round_of
  round_applicants = length_table (list_at t) (applicants t)

  pub round_workshops : length (round_of t).places ≡ workshops t
  unfolding round_of
  round_workshops = length_table (places_at t) (workshops t)

  pub round_list : (a : ℕ) → a < applicants t → get_or (round_of t).lists a [] ≡ list_at t a
  unfolding round_of
  round_list a h = getD_table (list_at t) (applicants t) a [] h

  pub round_places : (w : ℕ) → w < workshops t → get_or (round_of t).places w 0 ≡ places_at t w
  unfolding round_of
  round_places w h = getD_table (places_at t) (workshops t) w 0 h

  pub round_point : (w a : ℕ) → w < workshops t → a < applicants t → places.point (round_of t) w a ≡ worth t w a
  unfolding round_of places.point
  round_point w a hw ha =
      ap (λ (xs : List ℕ). get_or xs a 0) (getD_table (λ p. table (worth t p) (applicants t)) (workshops t) w [] hw)
      ∙ getD_table (worth t w) (applicants t) a 0 ha

  -- The market of the tables, by the tables.
  pub market_n : (market t).n ≡ applicants t
  unfolding market market_of
  market_n = round_applicants

  pub market_m : (market t).m ≡ workshops t
  unfolding market market_of
  market_m = round_workshops

module _ (t : Tables) (good : Proper t) where
  pub getD_list_at : (a j d : ℕ) → a < applicants t → j < list_length t a → get_or (list_at t a) j d ≡ get_or t.entries (get_or t.starts a 0 + j) 0
  getD_list_at a j d h l =
      get_or_default (list_at t a) j d 0 (omega (arith, length_list_at t good a h))
      ∙ proper.getD_list_at t good a j l

  -- lists name workshops
  pub list_named : (a j d : ℕ) → a < applicants t → j < list_length t a → get_or (list_at t a) j d < workshops t
  list_named a j d h l = rw (getD_list_at a j d h l) (good.named _ (omega (arith, starts_le t good a h)))

  pub point_none : (w a : ℕ) → workshops t ≤ w → places.point (round_of t) w a ≡ 0
  unfolding round_of places.point
  point_none w a hw =
      let all : ℕ → List ℕ = λ p. table (worth t p) (applicants t) in
      ap (λ (xs : List ℕ). get_or xs a 0) (get_or_past (table all (workshops t)) w [] (omega (arith, length_table all (workshops t))))

  list_distinct : (a : ℕ) → a < applicants t → promise.Distinct (workshops t) (list_at t a)
  unfolding promise.Distinct
  list_distinct a h = (
    λ j k hj hk e.
        elim (cases_order j k) [
          | inl same ↦ same
          | inr (inl l) ↦ absurd (no_repeat_apart (list_at t a) (good.distinct a h) j k l hk e)
          | inr (inr l) ↦ absurd (no_repeat_apart (list_at t a) (good.distinct a h) k j l hj (sym e))
        ],
    λ j hj. list_named a j (workshops t) h (omega (arith, length_list_at t good a h)),
  )

  points_distinct : (p a b : ℕ) → a < applicants t → b < applicants t → 0 < places.point (round_of t) p a → places.point (round_of t) p a ≡ places.point (round_of t) p b → a ≡ b
  points_distinct p a b ha hb pos e =
      elim (cases_lt p (workshops t)) [
        | inl hp ↦
            worth_same t good p a b (omega (arith, round_point t p a hp ha))
            (sym (round_point t p a hp ha) ∙ e ∙ round_point t p b hp hb)
        | inr hp ↦ absurd (omega (arith, point_none p a hp))
      ]

  pub round_proper : promise.Proper (round_of t)
  round_proper =
      record {
        lists =
            λ a h.
            let ha : a < applicants t = omega (arith, round_applicants t) in
            rw (round_workshops t, round_list t a ha) (list_distinct a ha);
        points = λ p a b ha hb. points_distinct p a b (omega (arith, round_applicants t)) (omega (arith, round_applicants t));
      }

  pub market_len : (a : ℕ) → a < applicants t → (market t).wish.len a ≡ list_length t a
  unfolding market market_of wish_of
  market_len a h = ap (λ (xs : List ℕ). length xs) (round_list t a h) ∙ length_list_at t good a h

  pub market_len_none : (a : ℕ) → applicants t ≤ a → (market t).wish.len a ≡ 0
  unfolding market market_of wish_of
  market_len_none a h = ap (λ (xs : List ℕ). length xs) (get_or_past (round_of t).lists a [] (omega (arith, round_applicants t)))

  pub market_entry : (a j : ℕ) → a < applicants t → j < list_length t a → (market t).wish.entry a j ≡ get_or t.entries (get_or t.starts a 0 + j) 0
  unfolding market market_of wish_of
  market_entry a j h l =
      ap (λ (xs : List ℕ). get_or xs j (places.nowhere (round_of t))) (round_list t a h) ∙ getD_list_at a j (places.nowhere (round_of t)) h l

  pub market_entry_list : (a j : ℕ) → a < applicants t → j < list_length t a → (market t).wish.entry a j ≡ get_or (list_at t a) j 0
  market_entry_list a j h l = market_entry a j h l ∙ sym (getD_list_at a j 0 h l)

  pub market_pos : (a p : ℕ) → a < applicants t → (market t).wish.pos a p ≡ promise.rank (list_at t a) p
  unfolding market market_of wish_of
  market_pos a p h = ap (λ (xs : List ℕ). promise.rank xs p) (round_list t a h)

  -- whom w keeps out of X
  pub market_keeps : (w a : ℕ) (X : ℕ → Bool) → w < workshops t → a < applicants t →
      (market t).keeps w X a ≡ (X a && (ltb 0 (worth t w a) && ltb (count (λ b. X b && ltb (worth t w a) (worth t w b)) (applicants t)) (places_at t w)))
  unfolding market market_of keeps_best ahead_of
  market_keeps w a X hw ha =
      let f : ℕ → Bool = λ b. X b && ltb (places.point (round_of t) w a) (places.point (round_of t) w b) in
      let g : ℕ → Bool = λ b. X b && ltb (worth t w a) (worth t w b) in
      let here = round_point t w a hw ha in
      keeps_same (X a) _ _ _ _ _ _ here
      (ap (count f) (round_applicants t) ∙ count_same f g (applicants t) (λ b hb. let there = round_point t w b hw hb in cc))
      (round_places t w hw)
