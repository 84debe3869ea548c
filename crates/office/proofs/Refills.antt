-- A Vec whose elements were written through a slice of them.
use Rattle.std.proofs.Common.{◌≡◌, ℕ, List, length, drop, ap, ◌∙◌, vec_items, vec_len, Vec, Ok, Result, arith}
use Rattle.std.specs.Vec.{with_items}
use Rattle.std.proofs.lemmas.List.{take_at}
use Rattle.layout.specs.Slices.{laid}
use Rattle.layout.specs.Tables.{tables}
use Rattle.codec.proofs.Puts.{over_whole}

pub items_refilled : {Z : Type 0} (v : Vec ℕ Z) (ws : List ℕ) → length ws ≡ vec_len v → vec_items (with_items v ws) ≡ ws
items_refilled v ws h = take_at ws (drop (length ws) v.items) v.len h

-- where a call r that went well laid xs over a list of its length, that is all that is left
pub whole : {T E : Type 0} (r : Result T E) (x : T) (xs old now : List ℕ) → r ≡ Ok x → now ≡ laid r xs old → length old ≡ length xs → now ≡ xs
whole r x xs old now ok lay long = lay ∙ rw ok (over_whole xs old long)

-- and a Vec of that length over whose slice it laid them holds xs; w is what the slice held in the end
pub filled : {T E Z : Type 0} (v : Vec ℕ Z) (r : Result T E) (x : T) (xs old now w : List ℕ) → r ≡ Ok x → now ≡ laid r xs old → w ≡ now →
    length old ≡ vec_len v → vec_len v ≡ length xs → vec_items (with_items v w) ≡ xs
filled v r x xs old now w ok lay is old_long long =
    let all : w ≡ xs = is ∙ whole r x xs old now ok lay (omega arith) in
    items_refilled v w (ap length all ∙ omega arith) ∙ all

-- tables of the same lists
pub tables_same : (a b c d e f g a' b' c' d' e' f' g' : List ℕ) → a ≡ a' → b ≡ b' → c ≡ c' → d ≡ d' → e ≡ e' → f ≡ f' → g ≡ g' →
    tables a b c d e f g ≡ tables a' b' c' d' e' f' g'
tables_same a b c d e f g a' b' c' d' e' f' g' p q r t u v w = rw (p, q, r, t, u, v, w)
