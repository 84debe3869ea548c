-- Two rounds that differ in the list of one applicant only: the second is the first with that list, as the promises have it.
use Rattle.std.proofs.Common.{◌≡◌, ℕ, zero, suc, ◌+◌, ◌-◌, ◌<◌, ◌≤◌, ◌≢◌, List, [], ◌∷◌, length, get_or, set, sym, refl, ap, ◌∙◌, subst, ap₂, ⊎_elim, arith, length-set}
use Rattle.std.proofs.lemmas.List.{get_or-set_same, get_or-set_other}
use Rattle.std.proofs.lemmas.Bool.{cases_eq}
use Rattle.layout.specs.Slices.{table}
use Rattle.layout.specs.Tables.{Tables, Proper, applicants, workshops, list_length, list_at}
use Rattle.layout.proofs.Flats.{length_table, getD_table, is_table, table_same}
use Rattle.round.specs.Places.{Round, result}
use Rattle.round.specs.Promise.{rank, with_list, Truthful as GivenTruthful, MoreApplicants}
use Rattle.round.specs.Promise as promise
use Rattle.round.specs.Market.{got}
use Rattle.round.proofs.Promised as promised
use Rattle.points.specs.Standing.{row_from, row_of, row_worth, worth, round_of, market}
use Rattle.points.proofs.Theory.{round_applicants, round_list, length_list_at}
use Rattle.asking.proofs.Proper.{round_proper}
use Rattle.office.specs.Promises.{OtherList}
use Rattle.office.proofs.Promising.{got_result}

-- a round is what its lists, places and points are
same_round : {ls ls' : List (List ℕ)} {ps ps' : List ℕ} {qs qs' : List (List ℕ)} → ls ≡ ls' → ps ≡ ps' → qs ≡ qs' →
    ◌≡◌ {A = Round} (record { lists = ls; places = ps; points = qs }) (record { lists = ls'; places = ps'; points = qs' })
same_round e f g = rw (e, f, g)

no_list : (xs : List ℕ) → length xs ≡ 0 → xs ≡ []
no_list [] e = refl
no_list (x ∷ xs) e = absurd (omega arith)

-- a round is itself with its own list
pub other_self : (t : Tables) (a : ℕ) → OtherList t t a
other_self t a = record { seats = refl; lots = refl; row_starts = refl; row_applicants = refl; row_points = refl; others = λ c l ne. refl }

module _ (t u : Tables) (a : ℕ) (other : OtherList t u a) where
  row_from_same : (c i k : ℕ) → row_from u c i k ≡ row_from t c i k
  unfolding row_from
  row_from_same c i zero = refl
  row_from_same c i (suc k) = rw (other.row_applicants, row_from_same c (i + 1) k)

  row_of_same : (w c : ℕ) → row_of u w c ≡ row_of t w c
  unfolding row_of
  row_of_same w c =
      row_from_same c _ _ ∙ ap (λ (s : List ℕ). row_from t c (get_or s w 0) (get_or s (w + 1) 0 - get_or s w 0)) other.row_starts

  row_worth_same : (i : ℕ) → row_worth u i ≡ row_worth t i
  unfolding row_worth
  row_worth_same i = cc

  worth_same : (w c : ℕ) → worth u w c ≡ worth t w c
  unfolding worth
  worth_same w c = row_worth_same (row_of u w c) ∙ ap (row_worth t) (row_of_same w c)

  module _ (l : a < applicants t) where
    lists_same : table (list_at u) (applicants t) ≡ set (table (list_at t) (applicants t)) a (list_at u a)
    lists_same =
        let old = table (list_at t) (applicants t) in
        let long = length_table (list_at t) (applicants t) in
        sym (is_table (list_at u) (set old a (list_at u a)) (applicants t) [] (length-set old a (list_at u a) ∙ long) (λ k h.
        ⊎_elim
        (λ (e : k ≡ a). rw e (get_or-set_same old a (list_at u a) [] (omega arith)))
        (λ (ne : k ≡ a → ⊥). get_or-set_other old a k (list_at u a) [] ne ∙ getD_table (list_at t) (applicants t) k [] h ∙ sym (other.others k h ne))
        (cases_eq k a)))

    points_same : table (λ w. table (worth u w) (applicants t)) (workshops t) ≡ table (λ w. table (worth t w) (applicants t)) (workshops t)
    points_same = table_same [] _ _ (workshops t) (λ w _. table_same 0 (worth u w) (worth t w) (applicants t) (λ c _. worth_same w c))

    pub round_other : round_of u ≡ with_list (round_of t) a (list_at u a)
    unfolding round_of with_list
    round_other =
        same_round
        (ap (λ (x : List ℕ). table (list_at u) (length x)) other.lots ∙ lists_same)
        (ap (λ (s : List ℕ). table (λ w. get_or s (w + 1) 0 - get_or s w 0) (length s - 1)) other.seats)
        (ap₂ (λ (x s : List ℕ). table (λ w. table (worth u w) (length x)) (length s - 1)) other.lots other.seats ∙ points_same)

-- What everybody gets in the two rounds.
module _ (t u : Tables) (pt : Proper t) (pu : Proper u) (a : ℕ) (l : a < applicants t) (other : OtherList t u a) where
  proper_other : promise.Proper (with_list (round_of t) a (list_at u a))
  proper_other = subst (λ (r : Round). promise.Proper r) (round_other t u a other l) (round_proper u pu)

  in_words : (c : ℕ) (x : List ℕ) → rank x (result (round_of t) c) ≤ rank x (result (with_list (round_of t) a (list_at u a)) c) → rank x (got (market t) c) ≤ rank x (got (market u) c)
  in_words c x h =
      let there = subst (λ (r : Round). rank x (result (round_of t) c) ≤ rank x (result r c)) (sym (round_other t u a other l)) h in
      subst (λ (g : ℕ → ℕ). rank x (g c) ≤ rank x (got (market u) c)) (got_result t pt)
      (subst (λ (g : ℕ → ℕ). rank x (result (round_of t) c) ≤ rank x (g c)) (got_result u pu) there)

  -- the true list gets a at least as much as any other
  pub no_list_gains : rank (list_at t a) (got (market t) a) ≤ rank (list_at t a) (got (market u) a)
  unfolding GivenTruthful
  no_list_gains =
      let n = round_applicants t in
      let self = round_other t t a (other_self t a) l in
      let own = subst (λ (r : Round). promise.Proper r) self (round_proper t pt) in
      let least = promised.truthful (round_of t) a (list_at t a) (list_at u a) (omega arith) own proper_other in
      in_words a (list_at t a) (subst (λ (r : Round). rank (list_at t a) (result r a) ≤ rank (list_at t a) (result (with_list (round_of t) a (list_at u a)) a)) (sym self) least)

  -- nobody else gains by a list where there was none
  pub nobody_gains : list_length t a ≡ 0 → (c : ℕ) → c < applicants t → c ≢ a → rank (list_at t c) (got (market t) c) ≤ rank (list_at t c) (got (market u) c)
  unfolding MoreApplicants
  nobody_gains none c lc ne =
      let n = round_applicants t in
      let empty = round_list t a l ∙ no_list (list_at t a) (length_list_at t pt a l ∙ none) in
      let least = promised.more_applicants (round_of t) c a (list_at u a) (round_proper t pt) proper_other (omega arith) (omega arith) ne empty in
      in_words c (list_at t c) (subst (λ (x : List ℕ). rank x (result (round_of t) c) ≤ rank x (result (with_list (round_of t) a (list_at u a)) c)) (round_list t c lc) least)
