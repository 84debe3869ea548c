-- Where the bench of a workshop and the letter of an applicant lie among all of them.
use Rattle.std.proofs.Common.{◌≡◌, ℕ, ◌+◌, ◌-◌, ◌*◌, ◌<◌, ◌≤◌, List, [], ◌∷◌, ◌++◌, length, get_or, take, drop, sym, refl, ap, ◌∙◌, subst, arith}
use lib.ListN.{length-replicate}
use Rattle.std.proofs.lemmas.List.{take_at, get_or_past, length-append}
use Rattle.std.proofs.lemmas.Bool.{lt-ltb}
use Rattle.layout.specs.Slices.{flat}
use Rattle.layout.specs.Tables.{Tables, Proper, applicants, workshops, places_at, list_length}
use Rattle.layout.proofs.Flats.{length_table, flat_more, length_flat, length_flat_mono, drop_flat}
use Rattle.round.specs.Market.{final}
use Rattle.points.specs.Standing.{market}
use Rattle.bench.specs.Row.{after, after_all, empty_bench}
use Rattle.bench.proofs.Laws.{length_after}
use Rattle.asking.specs.Ended.{bench_of, bench_at, benches_at, benches_of}
use Rattle.cuts.specs.Cuts.{cut_of_bench}
use Rattle.cuts.specs.declared.Cut.TheVariants.{Shut}
use Rattle.letters.specs.Settled.{own_entry, own_letter}
use Rattle.letters.proofs.Writing.{letter_at, length_encode_letter}
use Rattle.cuts.specs.Promised.{cut_at}
use Rattle.office.specs.Outcome.{letter_of, letters_of, letter_told}

-- list k, among n lists one after the other; at is where it begins, and to where it ends
pub flat_part : (f : ℕ → List ℕ) (n k at to : ℕ) → k < n → length (flat f k) ≡ at → at + length (f k) ≡ to →
    (take (to - at) (drop at (flat f n)) ≡ f k) × (to ≤ length (flat f n))
flat_part f n k at to l begins ends =
    let rest = drop (length (flat f (k + 1))) (flat f n) in
    let whole : drop at (flat f n) ≡ f k ++ rest = subst (λ (x : ℕ). drop x (flat f n) ≡ f k ++ rest) begins (drop_flat f n k l) in
    let long = ap (λ (x : List ℕ). length x) (flat_more f k) in
    let mono = length_flat_mono f (k + 1) n (omega arith) in
    (rw whole (take_at (f k) rest (to - at) (omega arith)), omega (arith, length-append (flat f k) (f k)))

length_after_all : (v : ℕ → ℕ) (xs b : List ℕ) → length (after_all v xs b) ≡ length b
unfolding after_all
length_after_all v [] b = refl
length_after_all v (x ∷ xs) b = length_after_all v xs (after v x b) ∙ length_after v x b

module _ (t : Tables) where
  length_bench_at : (s : ℕ → ℕ) (w : ℕ) → length (bench_at t s w) ≡ places_at t w
  unfolding bench_at bench_of empty_bench
  length_bench_at s w = length_after_all _ _ _ ∙ length-replicate (places_at t w) _

  length_benches_below : Proper t → (w : ℕ) → w ≤ workshops t → length (flat (bench_at t (final (market t))) w) ≡ get_or t.seats w 0
  length_benches_below proper w l =
      length_flat (bench_at t (final (market t))) (λ k. get_or t.seats k 0) w proper.seated.0
      (λ k h. let up = proper.seated.1 k (omega arith) in omega (arith, length_bench_at (final (market t)) k))

  pub length_benches : Proper t → length (benches_of t) ≡ get_or t.seats (workshops t) 0
  unfolding benches_of benches_at
  length_benches proper = length_benches_below proper (workshops t) (omega arith)

  module _ (proper : Proper t) (w : ℕ) where
    pub bench_part : w < workshops t →
        (take (get_or t.seats (w + 1) 0 - get_or t.seats w 0) (drop (get_or t.seats w 0) (benches_of t)) ≡ bench_at t (final (market t)) w)
        × (get_or t.seats (w + 1) 0 ≤ length (benches_of t))
    unfolding benches_of benches_at
    bench_part l =
        let begins = length_benches_below proper w (omega arith) in
        let up = proper.seated.1 w l in
        flat_part (bench_at t (final (market t))) (workshops t) w (get_or t.seats w 0) (get_or t.seats (w + 1) 0) l begins (omega (arith, length_bench_at (final (market t)) w))

    -- a number that is no workshop is as one without places
    pub cut_past : workshops t ≤ w → Shut ≡ cut_at t w
    unfolding cut_at
    cut_past l =
        let none = get_or_past t.seats (w + 1) 0 (omega arith) in
        let e : length (bench_at t (final (market t)) w) ≡ 0 = omega (arith, length_bench_at (final (market t)) w) in
        rw e

  length_letter_of : (a : ℕ) → length (letter_of t a) ≡ 6 + 8 * list_length t a
  unfolding letter_of
  length_letter_of a = omega (arith, length_encode_letter (own_letter t a), length_table (own_entry t a) (list_length t a))

  module _ (proper : Proper t) where
    letter_at_more : (a : ℕ) → a < applicants t → letter_at t (a + 1) ≡ letter_at t a + length (letter_of t a)
    letter_at_more a l = omega (arith, length_letter_of a, proper.started.2 a l)

    length_letters_below : (a : ℕ) → a ≤ applicants t → length (flat (letter_of t) a) ≡ letter_at t a
    length_letters_below a l = length_flat (letter_of t) (letter_at t) a (omega (arith, proper.started.1)) (λ k h. letter_at_more k (omega arith))

    pub length_letters : length (letters_of t) ≡ 6 * applicants t + 8 * length t.entries
    unfolding letters_of
    length_letters = omega (arith, length_letters_below (applicants t) (omega arith), proper.started.4)

    pub letter_part : (a : ℕ) → a < applicants t →
        (take (letter_at t (a + 1) - letter_at t a) (drop (letter_at t a) (letters_of t)) ≡ letter_of t a)
        × (letter_at t (a + 1) ≤ length (letters_of t))
    unfolding letters_of
    letter_part a l =
        let begins = length_letters_below a (omega arith) in
        flat_part (letter_of t) (applicants t) a (letter_at t a) (letter_at t (a + 1)) l begins (sym (letter_at_more a l))

-- The same where u, bs and ls are the round, the benches and the letters in slices, and n is how many workshops or applicants there are.
module _ (t u : Tables) (proper : Proper t) (same : u ≡ t) where
  module _ (bs : List ℕ) (held : bs ≡ benches_of t) (w n : ℕ) (number : n ≡ workshops u) where
    pub cut_in_slice : w < n → cut_of_bench u (take (get_or u.seats (w + 1) 0 - get_or u.seats w 0) (drop (get_or u.seats w 0) bs)) ≡ cut_at t w
    unfolding cut_at
    cut_in_slice l = let h = rw number at l in rw (held, same) (ap (λ (b : List ℕ). cut_of_bench t b) (bench_part t proper w (rw same at h)).0)

    -- a workshop's bench begins before it ends, and ends within the benches
    pub bench_within : w < n → (get_or u.seats w 0 ≤ get_or u.seats (w + 1) 0) × (get_or u.seats (w + 1) 0 ≤ length bs)
    bench_within l =
        let h = rw number at l in
        let k : w < workshops t = rw same at h in (rw same (proper.seated.1 w k), rw (held, same) (bench_part t proper w k).1)

    pub cut_of_none : n ≤ w → Shut ≡ cut_at t w
    cut_of_none l = let h = rw number at l in cut_past t proper w (rw same at h)

  module _ (ls : List ℕ) (held : ls ≡ letters_of t) (a n : ℕ) (number : n ≡ applicants u) where
    pub letter_in_slice : a < n → take (letter_at u (a + 1) - letter_at u a) (drop (letter_at u a) ls) ≡ letter_told t a
    letter_in_slice l = let h = rw number at l in let k : a < applicants t = rw same at h in rw (held, same, lt-ltb a (applicants t) k) (letter_part t proper a k).0

    pub letter_end : a < n → letter_at u (a + 1) ≤ length ls
    letter_end l = let h = rw number at l in rw (held, same) (letter_part t proper a (rw same at h)).1
