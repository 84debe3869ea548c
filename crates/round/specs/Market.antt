-- Markets: preference lists on one side, ways of keeping on the other, and deferred acceptance between them.
-- A workshop is known only by its way of keeping: whom it keeps out of all who have asked it so far.
-- In this order: counting; lists; markets and their laws; states; asking; what a state may be. Definitions only.
use Rattle.std.specs.Prelude.{◌≡◌, ℕ, zero, suc, ◌+◌, ◌<◌, ◌≤◌, min, Bool, true, false, cond, not, ◌&&◌, ◌⊎◌, ◌==◌, nat_le, nat_lt}

-- how many below n pass the test
unfoldable pub count : (ℕ → Bool) → ℕ → ℕ
count f zero = 0
count f (suc n) = cond (f n) 1 0 + count f n

-- the sum of f below n
unfoldable pub sum : (ℕ → ℕ) → ℕ → ℕ
sum f zero = 0
sum f (suc n) = f n + sum f n

-- preference lists: how many entries an applicant has, what stands at a position of its list (the dearest at 0),
-- and at which position a workshop stands, which is the list's length or more where it is not listed
pub record Wish : Type 0 where
  pub len : ℕ → ℕ
  pub entry : ℕ → ℕ → ℕ
  pub pos : ℕ → ℕ → ℕ

-- n applicants, m workshops; keeps p X a: out of the set X of all who have asked p, it keeps a
pub record Market : Type 0 where
  pub n : ℕ
  pub m : ℕ
  pub keeps : ℕ → (ℕ → Bool) → ℕ → Bool
  pub wish : Wish

unfoldable pub Within : (ℕ → Bool) → (ℕ → Bool) → Type 0
Within X Y = (a : ℕ) → X a ≡ true → Y a ≡ true

-- the laws of a way of keeping: own, whoever is kept has asked; substitutes, more rivals never help;
-- aggregate demand, more askers never leave fewer kept
pub record Way (n : ℕ) (keeps : ℕ → (ℕ → Bool) → ℕ → Bool) : Type 0 where
  pub own : (p : ℕ) (X : ℕ → Bool) (a : ℕ) → keeps p X a ≡ true → X a ≡ true
  pub substitutes : (p : ℕ) (X Y : ℕ → Bool) → Within X Y → (a : ℕ) → X a ≡ true → keeps p Y a ≡ true → keeps p X a ≡ true
  pub aggregate : (p : ℕ) (X Y : ℕ → Bool) → Within X Y → count (keeps p X) n ≤ count (keeps p Y) n

-- the laws of lists: a list names workshops, none twice, and only applicants have one
pub record Listed (n m : ℕ) (w : Wish) : Type 0 where
  pub there : (a j : ℕ) → j < w.len a → w.pos a (w.entry a j) ≡ j
  pub back : (a p : ℕ) → w.pos a p < w.len a → w.entry a (w.pos a p) ≡ p
  pub small : (a j : ℕ) → j < w.len a → w.entry a j < m
  pub outside : (a : ℕ) → n ≤ a → w.len a ≡ 0

pub record Lawful (k : Market) : Type 0 where
  pub way : Way k.n k.keeps
  pub listed : Listed k.n k.m k.wish

-- A state gives each applicant the position of its list that it has come to; its list's length means used up.
-- asked: c has asked p so far; here: c asks p now
unfoldable pub asked : Wish → (ℕ → ℕ) → ℕ → ℕ → Bool
asked w at p c = nat_le (w.pos c p) (at c) && nat_lt (w.pos c p) (w.len c)

unfoldable pub here : Wish → (ℕ → ℕ) → ℕ → ℕ → Bool
here w at p c = w.pos c p == at c && nat_lt (w.pos c p) (w.len c)

-- a asks somewhere, and is not kept there out of all who have asked
unfoldable pub turned : Market → (ℕ → ℕ) → ℕ → Bool
turned k at a =
    nat_lt (at a) (k.wish.len a)
    && not (k.keeps (k.wish.entry a (at a)) (asked k.wish at (k.wish.entry a (at a))) a)

-- all who are turned down ask the next workshop of their lists, together
unfoldable pub move : Market → (ℕ → ℕ) → ℕ → ℕ
move k at a = cond (turned k at a) (at a + 1) (at a)

unfoldable pub run : Market → ℕ → ℕ → ℕ
run k zero a = 0
run k (suc t) a = move k (run k t) a

-- the number of entries of all lists
unfoldable pub entries : Market → ℕ
entries k = sum k.wish.len k.n

-- the end: after as many steps as there are entries nobody moves any more
unfoldable pub final : Market → ℕ → ℕ
final k = run k (entries k)

-- the number of asks: the list entries that were asked, over all applicants
unfoldable pub asks_at : Market → (ℕ → ℕ) → ℕ
asks_at k s = sum (λ a. min (s a + 1) (k.wish.len a)) k.n

unfoldable pub asks : Market → ℕ
asks k = asks_at k (final k)

-- somebody has a place at s; how many have
unfoldable pub placed_at : Market → (ℕ → ℕ) → ℕ → Bool
placed_at k s a = nat_lt (s a) (k.wish.len a)

unfoldable pub placed : Market → ℕ
placed k = count (placed_at k (final k)) k.n

-- the workshop that a has at s; m, which is none, where its list is used up
unfoldable pub held : Market → (ℕ → ℕ) → ℕ → ℕ
held k s a = cond (nat_lt (s a) (k.wish.len a)) (k.wish.entry a (s a)) k.m

unfoldable pub got : Market → ℕ → ℕ
got k = held k (final k)

-- One after the other, in groups, in any order: from s to t everybody stays, or was turned down and moves on by one.
abbrev pub Moves : Market → (ℕ → ℕ) → (ℕ → ℕ) → Type 0
Moves k s t = (a : ℕ) → (t a ≡ s a) ⊎ ((turned k s a ≡ true) × (t a ≡ s a + 1))

pub data Reached (k : Market) : (ℕ → ℕ) → Type 0 where
  start : (s : ℕ → ℕ) → ((a : ℕ) → s a ≡ 0) → Reached k s
  then : (s t : ℕ → ℕ) → Reached k s → Moves k s t → Reached k t

-- whoever asks p now is kept out of all who have asked p
abbrev pub Closed : Market → (ℕ → ℕ) → Type 0
Closed k s = (p a : ℕ) → here k.wish s p a ≡ true → k.keeps p (asked k.wish s p) a ≡ true

-- whoever has passed p is not kept out of all who have asked p
abbrev pub Justified : Market → (ℕ → ℕ) → Type 0
Justified k s = (p a : ℕ) → k.wish.pos a p < k.wish.len a → k.wish.pos a p < s a → k.keeps p (asked k.wish s p) a ≡ false

pub record Steady (k : Market) (s : ℕ → ℕ) : Type 0 where
  pub closed : Closed k s
  pub justified : Justified k s
  pub within : (a : ℕ) → s a ≤ k.wish.len a

-- those placed at p, with a among them
unfoldable pub joined_by : Market → (ℕ → ℕ) → ℕ → ℕ → ℕ → Bool
joined_by k s p a c = cond (c == a) true (here k.wish s p c)

-- the same in the words of an assignment: each workshop keeps all who are placed there, and would not keep, beside them,
-- anybody to whom it is dearer than what it has
pub record StableAt (k : Market) (s : ℕ → ℕ) : Type 0 where
  pub within : (a : ℕ) → s a ≤ k.wish.len a
  pub kept : (p a : ℕ) → here k.wish s p a ≡ true → k.keeps p (here k.wish s p) a ≡ true
  pub no_pair : (p a : ℕ) → k.wish.pos a p < k.wish.len a → k.wish.pos a p < s a → k.keeps p (joined_by k s p a) a ≡ false
