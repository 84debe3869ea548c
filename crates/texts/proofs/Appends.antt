-- Lines put one after the other behind a text.
use Rattle.std.proofs.Common.{◌≡◌, ℕ, ◌+◌, List, [], ◌++◌, sym, ap, ◌∙◌, append_assoc, append-nil}
use Rattle.layout.specs.Slices.{flat}
use Rattle.layout.proofs.Flats.{flat_more}

module _ (f : ℕ → List ℕ) (old : List ℕ) where
  pub lines_none : old ≡ old ++ flat f 0
  unfolding flat
  lines_none = sym (append-nil old)

  pub lines_more : (was now : List ℕ) (i : ℕ) → was ≡ old ++ flat f i → now ≡ was ++ f i → now ≡ old ++ flat f (i + 1)
  lines_more was now i before after =
      after ∙ ap (λ (x : List ℕ). x ++ f i) before ∙ append_assoc old (flat f i) (f i) ∙ sym (ap (λ (x : List ℕ). old ++ x) (flat_more f i))

-- three and four parts, one behind the other, from an empty text on
pub three_parts : (a b c a' none p q r : List ℕ) → none ≡ [] → a' ≡ a → p ≡ none ++ a' → q ≡ p ++ b → r ≡ q ++ c → r ≡ a ++ (b ++ c)
three_parts a b c a' none p q r empty same e f g = g ∙ simp (f, e, empty, same, append_assoc)

pub four_parts : (a b c d a' none p q r s : List ℕ) → none ≡ [] → a' ≡ a → p ≡ none ++ a' → q ≡ p ++ b → r ≡ q ++ c → s ≡ r ++ d →
    s ≡ a ++ (b ++ (c ++ d))
four_parts a b c d a' none p q r s empty same e f g h =
    h ∙ ap (λ (x : List ℕ). x ++ d) (three_parts a b c a' none p q r empty same e f g) ∙ simp append_assoc
