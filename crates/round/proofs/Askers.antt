-- What asking, being kept and being turned down say as plain facts, and what the laws of a way of keeping give:
-- a refusal stays, and whom nobody of them would miss can be left out.
use Rattle.std.proofs.Common.{◌≡◌, ℕ, ◌+◌, ◌<◌, ◌≤◌, Bool, true, false, ◌⊎◌, sym, ◌∙◌, inl, inr, arith}
use Rattle.std.proofs.lemmas.Bool.Decides.{nat_tests, same_from_decides}
use Rattle.std.proofs.lemmas.Bool.{cases_Bool, false≢true}
use Rattle.round.specs.Market.{Wish, Market, Within, Way, asked, here, turned, move}
use Rattle.round.proofs.Count.{count_all}

module _ (w : Wish) (s : ℕ → ℕ) (p a : ℕ) where
  pub asked_from : w.pos a p ≤ s a → w.pos a p < w.len a → asked w s p a ≡ true
  unfolding asked
  asked_from h l = grind (arith, nat_tests)

  pub asked_parts : asked w s p a ≡ true → (w.pos a p ≤ s a) × (w.pos a p < w.len a)
  unfolding asked
  asked_parts h = grind (arith, nat_tests)

  pub here_from : w.pos a p ≡ s a → w.pos a p < w.len a → here w s p a ≡ true
  unfolding here
  here_from h l = grind (arith, nat_tests)

  pub here_parts : here w s p a ≡ true → (w.pos a p ≡ s a) × (w.pos a p < w.len a)
  unfolding here
  here_parts h = grind (arith, nat_tests)

  -- whoever asks has asked
  pub here_asked : here w s p a ≡ true → asked w s p a ≡ true
  here_asked h = let i = here_parts h in asked_from (omega arith) i.1

  -- whoever has asked asks now, or has passed on
  pub asked_cases : asked w s p a ≡ true → (here w s p a ≡ true) ⊎ (w.pos a p < s a)
  unfolding asked here
  asked_cases h = grind (arith, nat_tests)

pub here_within : (w : Wish) (s : ℕ → ℕ) (p : ℕ) → Within (here w s p) (asked w s p)
unfolding Within
here_within w s p a = here_asked w s p a

-- further on, more have asked
pub asked_more : (w : Wish) (s t : ℕ → ℕ) (p : ℕ) → ((a : ℕ) → s a ≤ t a) → Within (asked w s p) (asked w t p)
unfolding Within
asked_more w s t p le a h = let i = asked_parts w s p a h in let l = le a in asked_from w t p a (omega arith) i.1

module _ (k : Market) (s : ℕ → ℕ) (a : ℕ) where
  -- kept where it asks
  abbrev pub kept_there : Bool
  kept_there = k.keeps (k.wish.entry a (s a)) (asked k.wish s (k.wish.entry a (s a))) a

  pub turned_parts : turned k s a ≡ true → (s a < k.wish.len a) × (kept_there ≡ false)
  unfolding turned
  turned_parts h = grind (arith, nat_tests)

  pub turned_from : s a < k.wish.len a → kept_there ≡ false → turned k s a ≡ true
  unfolding turned
  turned_from l h = grind (arith, nat_tests)

  pub kept_from_unturned : turned k s a ≡ false → s a < k.wish.len a → kept_there ≡ true
  unfolding turned
  kept_from_unturned h l = grind (arith, nat_tests)

  pub move_stays : turned k s a ≡ false → move k s a ≡ s a
  unfolding move
  move_stays h = grind arith

  pub move_on : turned k s a ≡ true → move k s a ≡ s a + 1
  unfolding move
  move_on h = grind arith

-- two tests that pass together are equal
pub same_tests : {x y : Bool} → (x ≡ true → y ≡ true) → (y ≡ true → x ≡ true) → x ≡ y
same_tests {x} {y} f g = same_from_decides {P = y ≡ true} x y (f, g) (λ h. h, λ h. h)

-- ways of keeping
module _ {n : ℕ} {keeps : ℕ → (ℕ → Bool) → ℕ → Bool} (way : Way n keeps) (p : ℕ) (X Y : ℕ → Bool) (sub : Within X Y) where
  -- whoever is not kept out of some is not kept out of more
  pub refused_stays : (a : ℕ) → X a ≡ true → keeps p X a ≡ false → keeps p Y a ≡ false
  refused_stays a x h =
      elim (cases_Bool (keeps p Y a)) [ inl t ↦ absurd (false≢true (sym h ∙ way.substitutes p X Y sub a x t)) | inr e ↦ e ]

  -- irrelevance of those who are not kept: if all who are kept out of Y are in X, the same are kept out of X
  pub irc : ((a : ℕ) → keeps p Y a ≡ true → X a ≡ true) → (a : ℕ) → a < n → keeps p X a ≡ keeps p Y a
  irc own a l =
      let more = λ (b : ℕ) (h : keeps p Y b ≡ true). way.substitutes p X Y sub b (own b h) h in
      let fewer = count_all (keeps p Y) (keeps p X) n (λ b _. more b) (way.aggregate p X Y sub) a l in
      same_tests fewer (more a)
