-- The given stable assignments are the stable states of the round's market: an assignment gives each applicant a position of its
-- list, that of the workshop it has, and a state gives each the workshop it holds.
use Rattle.std.proofs.Common.{◌≡◌, ℕ, zero, suc, ◌<◌, ◌≤◌, true, false, ◌&&◌, eqb, ltb, ◌⊎◌, [], length, get_or, sym, refl, ap, ◌∙◌, subst, inl, inr, arith}
use mathlib.Core.Path.{fun_ext}
use Rattle.std.proofs.lemmas.Bool.Decides.{nat_tests, same_from_decides, Decides-eqb}
use Rattle.std.proofs.lemmas.Bool.{eqb-true, eq-eqb, ltb-true, lt-ltb, le-ltb, and_parts, and_from, and_right, cond-true, cond-false, cases_eq, cases_lt, cases_Bool}
use Rattle.round.specs.Places.{Round, point, nowhere}
use Rattle.round.specs.Promise.{Proper, Stable, rank, given}
use Rattle.round.specs.Market.{Market, StableAt, here, held, joined_by, count}
use Rattle.round.specs.ByPoints.{wish_of, market_of, ahead_of}
use Rattle.round.specs.Office.{position_of, SameStable}
use Rattle.round.proofs.Count.{count_mono, count_same, count_less, count_all}
use Rattle.round.proofs.Askers.{here_from, here_parts}
use Rattle.round.proofs.Stability.{joined_self, here_joined}
use Rattle.round.proofs.Best.{kept_facts, kept_from, crowd_from, few}
use Rattle.round.proofs.Ranks.{rank_bound, rank_nowhere, listed_by_rank, below_from_rank}

-- those given p are counted
pub given_count : (m : ℕ → ℕ) (p n : ℕ) → given m p n ≡ count (λ a. eqb (m a) p) n
unfolding given count
given_count m p zero = refl
given_count m p (suc n) = let ih = given_count m p n in grind arith

-- of those placed at p with a among them, all who go ahead of a are placed there
joined_ahead : (k : Market) (s : ℕ → ℕ) (p a : ℕ) (v : ℕ → ℕ) (b : ℕ) → (joined_by k s p a b && ltb (v a) (v b)) ≡ true → here k.wish s p b ≡ true
unfolding joined_by
joined_ahead k s p a v b t =
    elim (cases_eq b a) [ inl e ↦ let same = ap {B = ℕ} (λ (c : ℕ). v c) e in absurd (grind (arith, nat_tests)) | inr ne ↦ grind (arith, nat_tests) ]

module _ (r : Round) (ok : Proper r) where
  -- at the position of what an assignment gives stands what it gives
  pub here_given : (m : ℕ → ℕ) (a : ℕ) → (m a ≡ nowhere r) ⊎ (rank (get_or r.lists a []) (m a) < length (get_or r.lists a [])) →
      (p : ℕ) → p < length r.places → here (wish_of r) (position_of r m) p a ≡ eqb (m a) p
  unfolding wish_of position_of nowhere
  here_given m a own p lp =
      same_from_decides {P = m a ≡ p} _ _ (
        λ t.
            let i = here_parts (wish_of r) (position_of r m) p a t in
            let e = (listed_by_rank r ok).back a p i.1 in
            let f = (listed_by_rank r ok).back a (m a) (omega arith) in
            cc,
        λ e.
            elim own [
              | inl none ↦ absurd (omega arith)
              | inr l ↦ here_from (wish_of r) (position_of r m) p a (rw e) (rw e at l)
            ],
      )
      (Decides-eqb (m a) p)

  -- as many are given p as stand there
  pub count_given : (m : ℕ → ℕ) → ((a : ℕ) → a < length r.lists → (m a ≡ nowhere r) ⊎ (rank (get_or r.lists a []) (m a) < length (get_or r.lists a []))) →
      (p : ℕ) → p < length r.places → given m p (length r.lists) ≡ count (here (wish_of r) (position_of r m) p) (length r.lists)
  count_given m own p lp = given_count m p _ ∙ count_same _ _ _ (λ a l. sym (here_given m a (own a l) p lp))

  -- an assignment gives each applicant a workshop of its list, or nowhere
  abbrev pub Assigns : (ℕ → ℕ) → Type 0
  Assigns m = (a : ℕ) → a < length r.lists → (m a ≡ nowhere r) ⊎ (rank (get_or r.lists a []) (m a) < length (get_or r.lists a []))

  pub stable_assigns : (m : ℕ → ℕ) → Stable r m → Assigns m
  stable_assigns m st a l = elim (st.own a l) [ inl e ↦ inl e | inr i ↦ inr i.0 ]

  module _ (m : ℕ → ℕ) (st : Stable r m) where
    given_here : (p a : ℕ) → a < length r.lists → p < length r.places → here (wish_of r) (position_of r m) p a ≡ true → m a ≡ p
    given_here p a l lp h = eqb-true (m a) p (sym (here_given m a (stable_assigns m st a l) p lp) ∙ h)

    -- whoever is given p is one of the best of those given p
    given_kept : (p a : ℕ) → here (wish_of r) (position_of r m) p a ≡ true → (market_of r).keeps p (here (wish_of r) (position_of r m) p) a ≡ true
    unfolding market_of wish_of nowhere ahead_of position_of
    given_kept p a h =
        let i = here_parts (wish_of r) (position_of r m) p a h in
        let lp = below_from_rank r ok a p i.1 in
        let e = given_here p a lp.0 lp.1 h in
        let room = st.room p lp.1 in
        let same = count_given m (stable_assigns m st) p lp.1 in
        let less : ahead_of (point r) (length r.lists) p (here (wish_of r) (position_of r m) p) a < count (here (wish_of r) (position_of r m) p) (length r.lists) =
        count_less _ _ _ (λ b _ t. (and_parts _ _ t).0) a lp.0 h (and_right _ _ (le-ltb (point r p a) (point r p a) (omega arith))) in
        elim (st.own a lp.0) [
          | inl none ↦ absurd (omega arith)
          | inr o ↦ kept_from (λ q. get_or r.places q 0) (point r) _ p _ a h (rw e at o.1) (omega arith)
        ]

    -- whoever would rather have p is not one of the best of those given p and itself
    rather_not_kept : (p a : ℕ) → rank (get_or r.lists a []) p < length (get_or r.lists a []) → rank (get_or r.lists a []) p < position_of r m a →
        (market_of r).keeps p (joined_by (market_of r) (position_of r m) p a) a ≡ false
    unfolding market_of wish_of nowhere ahead_of position_of
    rather_not_kept p a l lt =
        let lp = below_from_rank r ok a p l in
        let same = count_given m (stable_assigns m st) p lp.1 in
        elim (cases_Bool ((market_of r).keeps p (joined_by (market_of r) (position_of r m) p a) a)) [
          | inr out ↦ out
          | inl k ↦
              let f = kept_facts (λ q. get_or r.places q 0) (point r) (length r.lists) p (joined_by (market_of r) (position_of r m) p a) a k in
              let pair = st.no_pair a p lp.0 lp.1 f.1 lt in
              let more : count (here (wish_of r) (position_of r m) p) (length r.lists) ≤ ahead_of (point r) (length r.lists) p (joined_by (market_of r) (position_of r m) p a) a =
              count_mono _ _ _
              (λ b lb h.
              and_from _ _ (here_joined (market_of r) (position_of r m) p a b h)
              (lt-ltb (point r p a) (point r p b) (pair.1 b lb (given_here p b lb lp.1 h)))) in
              absurd (omega arith)
        ]

    -- a stable assignment is a stable state
    pub stable_from_given : StableAt (market_of r) (position_of r m)
    unfolding market_of wish_of position_of
    stable_from_given = record { within = λ a. rank_bound (get_or r.lists a []) (m a); kept = given_kept; no_pair = rather_not_kept }

  module _ (m : ℕ → ℕ) (own : Assigns m) (st : StableAt (market_of r) (position_of r m)) where
    -- no workshop has more than its places
    room_from_kept : (p : ℕ) → p < length r.places → given m p (length r.lists) ≤ get_or r.places p 0
    unfolding market_of
    room_from_kept p lp =
        let same = count_given m own p lp in
        let most = few (λ q. get_or r.places q 0) (point r) (length r.lists) ok.points p (here (wish_of r) (position_of r m) p) in
        let all = count_mono (here (wish_of r) (position_of r m) p) ((market_of r).keeps p (here (wish_of r) (position_of r m) p)) (length r.lists) (λ a _ h. st.kept p a h) in
        omega arith

    -- and whoever would rather have p finds it full of better ones
    pair_from_kept : (a p : ℕ) → a < length r.lists → p < length r.places → 0 < point r p a →
        rank (get_or r.lists a []) p < rank (get_or r.lists a []) (m a) →
        (get_or r.places p 0 ≤ given m p (length r.lists))
        × ((b : ℕ) → b < length r.lists → m b ≡ p → point r p a < point r p b)
    unfolding market_of wish_of ahead_of position_of
    pair_from_kept a p l lp pts lt =
        let bound = rank_bound (get_or r.lists a []) (m a) in
        let out = st.no_pair p a (omega arith) lt in
        let crowd = crowd_from (λ q. get_or r.places q 0) (point r) (length r.lists) p (joined_by (market_of r) (position_of r m) p a) a (joined_self (market_of r) (position_of r m) p a) pts out in
        let same = count_given m own p lp in
        let room = room_from_kept p lp in
        let in_it : (b : ℕ) → b < length r.lists → (joined_by (market_of r) (position_of r m) p a b && ltb (point r p a) (point r p b)) ≡ true → here (wish_of r) (position_of r m) p b ≡ true =
        λ b _. joined_ahead (market_of r) (position_of r m) p a (point r p) b in
        let fewer = count_mono _ _ _ in_it in (
          omega arith,
          λ b lb e.
              let all = count_all _ _ _ in_it (omega arith) b lb (here_given m b (own b lb) p lp ∙ eq-eqb (m b) p e) in
              ltb-true (point r p a) (point r p b) (and_parts _ _ all).1,
        )

    -- an assignment whose positions are a stable state is stable
    pub given_from_stable : Stable r m
    unfolding market_of wish_of position_of nowhere
    given_from_stable =
        record {
          own = λ a l. elim (own a l) [ inl e ↦ inl e | inr lt ↦ inr (lt, (kept_facts (λ q. get_or r.places q 0) (point r) (length r.lists) (m a) _ a (st.kept (m a) a (here_from (wish_of r) (position_of r m) (m a) a refl lt))).1) ];
          room = room_from_kept;
          no_pair = pair_from_kept;
        }

  -- what a state holds stands at its position, and whoever has used up its list holds nothing
  pub rank_held : (s : ℕ → ℕ) (a : ℕ) → s a < length (get_or r.lists a []) → rank (get_or r.lists a []) (held (market_of r) s a) ≡ s a
  unfolding held market_of wish_of
  rank_held s a lt = rw (cond-true _ _ _ (lt-ltb (s a) (length (get_or r.lists a [])) lt)) ((listed_by_rank r ok).there a (s a) lt)

  pub held_none : (s : ℕ → ℕ) (a : ℕ) → length (get_or r.lists a []) ≤ s a → held (market_of r) s a ≡ nowhere r
  unfolding held market_of wish_of nowhere
  held_none s a le = cond-false _ _ _ (le-ltb (s a) _ le)

  -- so it is an assignment
  pub held_assigns : (s : ℕ → ℕ) → Assigns (held (market_of r) s)
  held_assigns s a l =
      elim (cases_lt (s a) (length (get_or r.lists a [])))
      [ inl lt ↦ let e = rank_held s a lt in inr (omega arith) | inr le ↦ inl (held_none s a le) ]

  -- and its positions are the state
  pub position_held : (s : ℕ → ℕ) → ((a : ℕ) → s a ≤ (market_of r).wish.len a) → (a : ℕ) → position_of r (held (market_of r) s) a ≡ s a
  unfolding market_of wish_of position_of nowhere
  position_held s within a =
      elim (cases_lt (s a) (length (get_or r.lists a []))) [
        | inl lt ↦ rank_held s a lt
        | inr le ↦
            let e = held_none s a le in
            let f = rank_nowhere r ok a (held (market_of r) s a) (omega arith) in
            let w = within a in
            omega arith
      ]

  -- what a stable state holds is a stable assignment
  pub stable_held : (s : ℕ → ℕ) → StableAt (market_of r) s → Stable r (held (market_of r) s)
  stable_held s st =
      given_from_stable (held (market_of r) s) (held_assigns s)
      (subst (λ (t : ℕ → ℕ). StableAt (market_of r) t) (sym (fun_ext (position_held s st.within))) st)

  -- an assignment is what its positions hold
  pub held_position : (m : ℕ → ℕ) → Assigns m → (a : ℕ) → a < length r.lists → held (market_of r) (position_of r m) a ≡ m a
  unfolding held market_of wish_of position_of nowhere
  held_position m own a l =
      elim (own a l) [
        | inl e ↦
            let used = rank_nowhere r ok a (m a) (omega arith) in
            held_none (position_of r m) a (omega arith) ∙ sym e
        | inr lt ↦ cond-true _ _ _ (lt-ltb (rank (get_or r.lists a []) (m a)) _ lt) ∙ (listed_by_rank r ok).back a (m a) lt
      ]

pub same_stable : SameStable
unfolding SameStable
same_stable r ok = (
  stable_from_given r ok,
  stable_held r ok,
  λ s st. position_held r ok s st.within,
  λ m st. held_position r ok m (stable_assigns r ok m st),
)
