-- What one ask does to how far asking has come, in any lawful market; and that where all have settled this is the end of asking all
-- together.
use Rattle.std.proofs.Common.{◌≡◌, ℕ, ◌+◌, ◌<◌, ◌≤◌, Bool, true, false, ◌≢◌, sym, ap, ◌∙◌, subst, inl, inr, arith}
use mathlib.Core.Path.{fun_ext}
use Rattle.std.proofs.lemmas.Bool.Decides.{nat_tests}
use Rattle.std.proofs.lemmas.Bool.{cases_lt, cases_eq}
use Rattle.round.specs.Market.{Wish, Market, Within, Lawful, Reached, start, then, Closed, asked, final, asks, asks_at}
use Rattle.asking.specs.Asking.{gone, Going}
use Rattle.round.proofs.Askers.{asked_from, here_parts, turned_from, refused_stays}
use Rattle.round.proofs.Theorems.{same_end}

module _ (w : Wish) (u : ℕ → ℕ) (p c : ℕ) where
  pub gone_from : w.pos c p < u c → w.pos c p < w.len c → gone w u p c ≡ true
  unfolding gone
  gone_from h l = grind (arith, nat_tests)

  pub gone_parts : gone w u p c ≡ true → (w.pos c p < u c) × (w.pos c p < w.len c)
  unfolding gone
  gone_parts h = grind (arith, nat_tests)

  pub not_gone : u c ≤ w.pos c p → gone w u p c ≡ false
  unfolding gone
  not_gone h = grind (arith, nat_tests)

-- where more was asked, more have asked
pub gone_more : (w : Wish) (u v : ℕ → ℕ) (p : ℕ) → ((c : ℕ) → u c ≤ v c) → Within (gone w u p) (gone w v p)
unfolding Within
gone_more w u v p le c h = let i = gone_parts w u p c h in let l = le c in gone_from w v p c (omega arith) i.1

module _ (k : Market) (law : Lawful k) (d u v : ℕ → ℕ) (going : Going k d u) (b : ℕ) (asker : u b ≡ d b) (more : v b ≡ d b + 1) (same : (c : ℕ) → c ≢ b → v c ≡ u c) where
  further : (c : ℕ) → u c ≤ v c
  further c = elim (cases_eq c b) [ inl i ↦ rw i (omega arith) | inr ne ↦ let e = same c ne in omega arith ]

  nearby : (c : ℕ) → (d c ≤ v c) × (v c ≤ d c + 1)
  nearby c =
      let l = going.near c in
      elim (cases_eq c b) [ inl i ↦ rw i (omega arith) | inr ne ↦ let e = same c ne in omega arith ]

  -- at all other workshops the same have asked
  pub gone_elsewhere : (q : ℕ) → (d b < k.wish.len b → q ≢ k.wish.entry b (d b)) → gone k.wish v q ≡ gone k.wish u q
  unfolding gone
  gone_elsewhere q ne =
      fun_ext (λ c.
      elim (cases_eq c b) [
        | inr other ↦ rw same
        | inl i ↦
            let apart : k.wish.pos b q < k.wish.len b → k.wish.pos b q ≢ d b = λ l e. ne (omega arith) (sym (law.listed.back b q l) ∙ ap (k.wish.entry b) e) in
            rw i (grind (arith, nat_tests))
      ])

  -- whoever has passed a workshop is still not kept there
  passed_still : (q c : ℕ) → k.wish.pos c q < k.wish.len c → k.wish.pos c q < d c → k.keeps q (gone k.wish v q) c ≡ false
  passed_still q c l lt =
      let n = going.near c in
      refused_stays law.way q (gone k.wish u q) (gone k.wish v q) (gone_more k.wish u v q further) c
      (gone_from k.wish u q c (omega arith) l) (going.passed q c l lt)

  -- whoever has settled where nobody asks now is still kept
  settled_still : (c : ℕ) → c ≢ b → v c ≡ d c + 1 → d c < k.wish.len c → (d b < k.wish.len b → k.wish.entry c (d c) ≢ k.wish.entry b (d b)) → k.keeps (k.wish.entry c (d c)) (gone k.wish v (k.wish.entry c (d c))) c ≡ true
  settled_still c ne e l apart =
      subst (λ (X : ℕ → Bool). k.keeps (k.wish.entry c (d c)) X c ≡ true) (sym (gone_elsewhere (k.wish.entry c (d c)) apart)) (going.settled c (sym (same c ne) ∙ e) l)

  -- b's list is used up: it asks nobody
  pub going_used_up : k.wish.len b ≤ d b → Going k d v
  going_used_up done =
      record {
        reached = going.reached;
        near = nearby;
        settled = λ c e l. settled_still c (λ i. let h : d b < k.wish.len b = rw i at l in omega arith) e l (λ h. absurd (omega arith));
        passed = passed_still;
      }

  -- b asks p
  module _ (l : d b < k.wish.len b) (p : ℕ) (asks_p : k.wish.entry b (d b) ≡ p) where
    settled_now : (c : ℕ) → (gone k.wish v p c ≡ true → k.wish.pos c p ≡ d c → k.keeps p (gone k.wish v p) c ≡ true) → v c ≡ d c + 1 → d c < k.wish.len c → k.keeps (k.wish.entry c (d c)) (gone k.wish v (k.wish.entry c (d c))) c ≡ true
    settled_now c kept e h =
        elim (cases_eq (k.wish.entry c (d c)) p) [
          | inr ne ↦ settled_still c (λ i. ne (rw (i, asks_p))) e h (λ _ i. ne (i ∙ asks_p))
          | inl i ↦
              let at = ap (k.wish.pos c) i in
              let t = law.listed.there c (d c) h in
              rw i (kept (gone_from k.wish v p c (omega arith) (omega arith)) (omega arith))
        ]

    -- and all who ask there now are kept
    pub going_kept : ((c : ℕ) → gone k.wish v p c ≡ true → k.wish.pos c p ≡ d c → k.keeps p (gone k.wish v p) c ≡ true) → Going k d v
    going_kept kept = record { reached = going.reached; near = nearby; settled = λ c. settled_now c (kept c); passed = passed_still }

    -- and o, who may be b, is turned down for it and comes to its next entry
    module _ (o : ℕ) (e : ℕ → ℕ) (on : e o ≡ d o + 1) (stays : (c : ℕ) → c ≢ o → e c ≡ d c) (has_gone : gone k.wish v p o ≡ true) (here_now : k.wish.pos o p ≡ d o) (out : k.keeps p (gone k.wish v p) o ≡ false) where
      within_asked : Within (gone k.wish v p) (asked k.wish d p)
      unfolding Within
      within_asked c h = let i = gone_parts k.wish v p c h in let n = nearby c in asked_from k.wish d p c (omega arith) i.1

      entry_o : k.wish.entry o (d o) ≡ p
      entry_o = ap (k.wish.entry o) (sym here_now) ∙ law.listed.back o p (gone_parts k.wish v p o has_gone).1

      reached_on : Reached k e
      reached_on =
          then d e going.reached (λ c.
          elim (cases_eq c o) [
            | inr ne ↦ inl (stays c ne)
            | inl i ↦
                inr (
                  rw i (turned_from k d o
                      (let h = gone_parts k.wish v p o has_gone in omega arith)
                      (subst (λ (x : ℕ). k.keeps x (asked k.wish d x) o ≡ false) (sym entry_o)
                      (refused_stays law.way p (gone k.wish v p) (asked k.wish d p) within_asked o has_gone out))),
                  rw i on,
                )
          ])

      near_on : (c : ℕ) → (e c ≤ v c) × (v c ≤ e c + 1)
      near_on c =
          let n = nearby c in
          elim (cases_eq c o) [
            | inl i ↦ let h = gone_parts k.wish v p o has_gone in rw i (let m = nearby o in omega arith)
            | inr ne ↦ let s = stays c ne in omega arith
          ]

      passed_on : (q c : ℕ) → k.wish.pos c q < k.wish.len c → k.wish.pos c q < e c → k.keeps q (gone k.wish v q) c ≡ false
      passed_on q c h lt =
          elim (cases_lt (k.wish.pos c q) (d c)) [
            | inl before ↦ passed_still q c h before
            | inr now ↦
                elim (cases_eq c o) [
                  | inr ne ↦ let s = stays c ne in absurd (omega arith)
                  | inl i ↦
                      let before = rw i at lt in
                      let after = rw i at now in
                      let at : k.wish.pos o q ≡ d o = omega arith in
                      let here : q ≡ p = sym (law.listed.back o q (rw i at h)) ∙ ap (k.wish.entry o) at ∙ entry_o in
                      rw (i, here) out
                ]
          ]

      -- all others who ask there now are kept
      pub going_out : ((c : ℕ) → c ≢ o → gone k.wish v p c ≡ true → k.wish.pos c p ≡ d c → k.keeps p (gone k.wish v p) c ≡ true) → Going k e v
      going_out kept =
          record {
            reached = reached_on;
            near = near_on;
            settled = λ c f h.
                let ne : c ≢ o = λ i. let g = rw i at f in let n = nearby o in omega arith in
                let s = stays c ne in
                subst (λ (j : ℕ). k.keeps (k.wish.entry c j) (gone k.wish v (k.wish.entry c j)) c ≡ true) (sym s) (settled_now c (kept c ne) (omega arith) (omega arith));
            passed = passed_on;
          }

-- all have settled: this is the end
module _ (k : Market) (law : Lawful k) (d u : ℕ → ℕ) (going : Going k d u) (all : (c : ℕ) → d c < k.wish.len c → u c ≡ d c + 1) where
  pub gone_asked : (p : ℕ) → gone k.wish u p ≡ asked k.wish d p
  unfolding gone asked
  gone_asked p = fun_ext (λ c. let e = all c in let n = going.near c in grind (arith, nat_tests))

  pub closed_at_last : Closed k d
  closed_at_last p a h =
      let i = here_parts k.wish d p a h in
      let e : k.wish.entry a (d a) ≡ p = ap (k.wish.entry a) (sym i.0) ∙ law.listed.back a p i.1 in
      let kept = going.settled a (all a (omega arith)) (omega arith) in
      subst (λ (X : ℕ → Bool). k.keeps p X a ≡ true) (gone_asked p) (subst (λ (x : ℕ). k.keeps x (gone k.wish u x) a ≡ true) e kept)

  pub final_at_last : ((c : ℕ) → d c ≡ final k c) × (asks_at k d ≡ asks k)
  final_at_last = same_end k law d going.reached closed_at_last

-- before the first ask
pub going_begins : (k : Market) (d u : ℕ → ℕ) → ((c : ℕ) → d c ≡ 0) → ((c : ℕ) → u c ≡ 0) → Going k d u
going_begins k d u zd zu =
    record {
      reached = start d zd;
      near = λ c. let e = zd c in let f = zu c in omega arith;
      settled = λ c e. let f = zd c in let g = zu c in absurd (omega arith);
      passed = λ p c l lt. let f = zd c in absurd (omega arith);
    }
