-- What the slices of a run hold after a write: how many entries each has asked, and the parts of the benches.
use Rattle.std.proofs.Common.{◌≡◌, ℕ, ◌+◌, ◌-◌, ◌<◌, ◌≤◌, ◌≢◌, List, length, get_or, take, drop, set, sym, refl, ap, ◌∙◌, inl, inr, arith}
use borrow.Rule.Slice.PartMut.{put_mid, same_len_mid}
use Rattle.std.specs.List.{between}
use Rattle.std.proofs.lemmas.Bool.{cases_lt, cases_eq, eq-eqb, ne_eqb}
use Rattle.std.proofs.lemmas.List.{get_or-take, get_or_past, get_or-set_same, get_or-set_other, length-take, length-take-le, length-drop}
use Rattle.std.proofs.lemmas.Slice.{between_is, take-put_mid_below, drop-put_mid, between-put_mid}
use Rattle.layout.specs.Tables.{Tables, Proper, applicants, workshops, places_at}
use Rattle.layout.proofs.Offsets.{rises}
use Rattle.asking.proofs.Found.{seats_in_all}
use Rattle.asking.specs.Asking.{counts, at_rest, but_for, one_more}

module _ (t : Tables) (results : List ℕ) where
  pub counts_at : (c : ℕ) → c < applicants t → counts t results c ≡ get_or results c 0
  unfolding counts
  counts_at c l = get_or-take (applicants t) results c 0 l

  pub counts_set_same : (b x : ℕ) → b < applicants t → applicants t ≤ length results → counts t (set results b x) b ≡ x
  unfolding counts
  counts_set_same b x l room = get_or-take (applicants t) (set results b x) b 0 l ∙ get_or-set_same results b x 0 (omega arith)

  pub counts_past : (c : ℕ) → applicants t ≤ c → counts t results c ≡ 0
  unfolding counts
  counts_past c l = get_or_past (take (applicants t) results) c 0 (omega (arith, length-take (applicants t) results))

module _ (t : Tables) (results : List ℕ) where
  pub counts_set_other : (b x c : ℕ) → c ≢ b → counts t (set results b x) c ≡ counts t results c
  counts_set_other b x c ne =
      elim (cases_lt c (applicants t)) [
        | inl l ↦ counts_at t (set results b x) c l ∙ get_or-set_other results b c x 0 ne ∙ sym (counts_at t results c l)
        | inr l ↦ counts_past t (set results b x) c l ∙ sym (counts_past t results c l)
      ]

  pub but_for_same : (b : ℕ) → but_for t results b b ≡ counts t results b
  unfolding but_for
  but_for_same b = rw (eq-eqb b b refl)

  pub but_for_other : (b c : ℕ) → c ≢ b → but_for t results b c ≡ counts t results c - 1
  unfolding but_for at_rest
  but_for_other b c ne = rw (ne_eqb c b ne)

-- b asks once more
module _ (t : Tables) (results : List ℕ) (b : ℕ) (small : b < applicants t) (room : applicants t ≤ length results) where
  pub counts_one_more : counts t (one_more results b) b ≡ but_for t results b b + 1
  counts_one_more =
      let e = but_for_same t results b in
      let f = counts_at t results b small in
      let g = counts_set_same t results b (get_or results b 0 + 1) small room in
      omega arith

  pub rest_one_more : (c : ℕ) → counts t (one_more results b) c - 1 ≡ but_for t results b c
  rest_one_more c =
      elim (cases_eq c b) [
        | inl e ↦ rw e (let m = counts_one_more in omega arith)
        | inr ne ↦ let s = counts_set_other t results b (get_or results b 0 + 1) c ne in let o = but_for_other t results b c ne in omega arith
      ]

-- the parts of the workshops lie one after the other
module _ (t : Tables) (ok : Proper t) (benches part : List ℕ) (w : ℕ) (lw : w < workshops t) (long : length part ≡ places_at t w) (room : get_or t.seats (workshops t) 0 ≤ length benches) where
  pub between_same : between (get_or t.seats w 0) (get_or t.seats (w + 1) 0) (put_mid (get_or t.seats w 0) (places_at t w) benches part) ≡ part
  between_same = let up = ok.seated.1 w lw in let in_all = seats_in_all t ok w lw in between-put_mid _ _ benches part _ (omega arith) long

  pub between_other : (q : ℕ) → q < workshops t → q ≢ w → between (get_or t.seats q 0) (get_or t.seats (q + 1) 0) (put_mid (get_or t.seats w 0) (places_at t w) benches part) ≡ between (get_or t.seats q 0) (get_or t.seats (q + 1) 0) benches
  between_other q lq ne =
      let up = ok.seated.1 w lw in
      let in_all = seats_in_all t ok w lw in
      elim (cases_lt q w) [
        | inl before ↦
            let apart = rises (λ k. get_or t.seats k 0) w (λ k l. ok.seated.1 k (omega arith)) (q + 1) (omega arith) in
            between_is (put_mid (get_or t.seats w 0) (places_at t w) benches part) (get_or t.seats q 0) (get_or t.seats (q + 1) 0)
            ∙ ap (drop (get_or t.seats q 0)) (take-put_mid_below _ (places_at t w) benches part _ apart (omega arith)) ∙ sym (between_is benches (get_or t.seats q 0) (get_or t.seats (q + 1) 0))
        | inr behind ↦
            let apart = rises (λ k. get_or t.seats k 0) q (λ k l. ok.seated.1 k (omega arith)) (w + 1) (omega arith) in
            ap (take (get_or t.seats (q + 1) 0 - get_or t.seats q 0)) (drop-put_mid _ _ benches part _ (omega arith) (omega arith) long)
      ]

  pub length_parts : length (put_mid (get_or t.seats w 0) (places_at t w) benches part) ≡ length benches
  length_parts =
      let up = ok.seated.1 w lw in
      let in_all = seats_in_all t ok w lw in
      same_len_mid _ _ benches part (long ∙ sym (length-take-le (places_at t w) (drop (get_or t.seats w 0) benches) (omega (arith, length-drop (get_or t.seats w 0) benches))))

  pub drop_behind : drop (get_or t.seats (workshops t) 0) (put_mid (get_or t.seats w 0) (places_at t w) benches part) ≡ drop (get_or t.seats (workshops t) 0) benches
  drop_behind = let up = ok.seated.1 w lw in let in_all = seats_in_all t ok w lw in drop-put_mid _ _ benches part _ (omega arith) (omega arith) long
