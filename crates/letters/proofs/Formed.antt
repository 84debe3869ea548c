-- A letter without a fault, as facts: what is there, and what holds of its numbers.
use Rattle.std.proofs.Common.{◌≡◌, ℕ, ◌+◌, ◌<◌, ◌≤◌, false, eqb, ◌⊎◌, List, length, Some, None, Decides, Option, refl, ap, arith}
use Rattle.std.proofs.lemmas.Bool.Decides.{nat_tests, Decides-eqb, Decides-below_or}
use Rattle.layout.specs.Slices.{or_else}
use Rattle.layout.specs.Bytes.{byte, refuse, first_of}
use Rattle.layout.specs.Tables.{most_entries}
use Rattle.layout.specs.declared.Refusal.TheVariants.{Malformed}
use Rattle.layout.proofs.Firsts.{some_is_not_none, or_else_none, none_or_else, refuse_none, none_refuse, first_of_none, none_first_of}
use Rattle.letters.specs.Letter.{count_in, entry_at, place_at, part_at}
use Rattle.letters.specs.Faults.{entry_fault, within, missing, head_fault, workshop_seen, listed_fault, end_fault, letter_fault}
use Rattle.letters.proofs.Entries.{Clean, clean_from_none, none_from_clean}

pub record Formed (b : List ℕ) : Type 0 where
  pub head : 5 ≤ length b
  pub few : count_in b ≤ most_entries
  pub listed : (j : ℕ) → j < count_in b → (entry_at j + 1 ≤ length b) × (workshop_seen b (byte b (entry_at j)) j ≡ false) × Clean (part_at b j)
  pub place : (byte b (place_at b) < count_in b) ⊎ (byte b (place_at b) ≡ 255)
  pub whole : length b ≡ place_at b + 1

within_none : (at : ℕ) (f : Option ℕ) → within at f ≡ None → f ≡ None
within_none at None h = refl
within_none at (Some k) h = absurd (some_is_not_none (Malformed (at + k)) h)

listed_none : (b : List ℕ) (j : ℕ) → listed_fault b j ≡ None → (entry_at j + 1 ≤ length b) × (workshop_seen b (byte b (entry_at j)) j ≡ false) × Clean (part_at b j)
listed_none b j h =
    let seen = workshop_seen b (byte b (entry_at j)) j in
    let rest = within (entry_at j) (entry_fault (part_at b j)) in
    let there = or_else_none (missing b (entry_at j) 1) (or_else (refuse seen (Malformed (entry_at j))) rest) h in
    let new = or_else_none (refuse seen (Malformed (entry_at j))) rest there.1 in
    (grind (arith, nat_tests, there.0), refuse_none seen _ new.0, clean_from_none (part_at b j) (within_none (entry_at j) _ new.1))

none_listed : (b : List ℕ) (j : ℕ) → entry_at j + 1 ≤ length b → workshop_seen b (byte b (entry_at j)) j ≡ false → Clean (part_at b j) → listed_fault b j ≡ None
none_listed b j there new clean =
    let seen = workshop_seen b (byte b (entry_at j)) j in
    let first : missing b (entry_at j) 1 ≡ None = grind (arith, nat_tests) in
    let rest = ap (within (entry_at j)) (none_from_clean (part_at b j) clean) in
    none_or_else (missing b (entry_at j) 1) _ first (none_or_else (refuse seen (Malformed (entry_at j))) _ (none_refuse seen _ new) rest)

pub formed_from_none : (b : List ℕ) → letter_fault b ≡ None → Formed b
unfolding letter_fault
formed_from_none b h =
    let entries = first_of (listed_fault b) (count_in b) in
    let head = or_else_none (head_fault b) (or_else entries (end_fault b)) h in
    let end = or_else_none entries (end_fault b) head.1 in
    record {
      head = grind (arith, nat_tests, head.0);
      few = grind (arith, nat_tests, head.0);
      listed = λ j l. listed_none b j (first_of_none (listed_fault b) (count_in b) end.0 j l);
      place = grind (arith, nat_tests, end.1);
      whole = grind (arith, nat_tests, end.1);
    }

pub none_from_formed : (b : List ℕ) → Formed b → letter_fault b ≡ None
unfolding letter_fault
none_from_formed b f =
    let head : head_fault b ≡ None = grind (arith, nat_tests) in
    let entries = none_first_of (listed_fault b) (count_in b) (λ j l. let here = f.listed j l in none_listed b j here.0 here.1 here.2) in
    let end : end_fault b ≡ None = grind (arith, nat_tests) in
    none_or_else (head_fault b) _ head (none_or_else _ (end_fault b) entries end)

-- a workshop was seen among the first j entries
pub workshop_seen_decides : (b : List ℕ) (w j : ℕ) → Decides (workshop_seen b w j) ((k : ℕ) × (k < j) × (byte b (entry_at k) ≡ w))
unfolding workshop_seen
workshop_seen_decides b w j =
    Decides-below_or (λ k. eqb (byte b (entry_at k)) w) (λ k. byte b (entry_at k) ≡ w) (workshop_seen b w) (λ k. Decides-eqb (byte b (entry_at k)) w) refl (λ _. refl) j
