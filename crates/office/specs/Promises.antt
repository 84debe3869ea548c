-- What the office promises of every round that is read from bytes. Each promise is a fact of the tables; then the statements, over all
-- bytes that are taken. Whoever asks on, what is left, what is dearer: by the lists, points and lots of these tables.
use Rattle.std.specs.Prelude.{◌≡◌, ℕ, ◌<◌, ◌≤◌, ◌≢◌, List, length, Ok, slice_index}
use Rattle.layout.specs.Tables.{Tables, applicants, workshops, list_length, list_at}
use Rattle.layout.specs.Bytes.{decode}
use Rattle.layout.specs.Encode.{BytesOnly}
use Rattle.round.specs.Promise.{Stable, rank, given}
use Rattle.round.specs.Market.{Reached, Closed, asked, final, got, asks, asks_at}
use Rattle.points.specs.Standing.{row_worth, round_of, market}
use Rattle.bench.specs.Best.{BestOf}
use Rattle.asking.specs.Ended.{told, rows_at, bench_at, Fair}
use Rattle.cuts.specs.Cuts.{first_reached}
use Rattle.cuts.specs.Promised.{CutDefined, cut_at, reaches_cut}
use Rattle.letters.specs.Exact.{judged_bytes, Exact}
use Rattle.letters.specs.Settled.{Accepted}
use Rattle.office.specs.Outcome.{letter_of}

-- each bench holds the best of those who asked and have points there, as many as it has places
abbrev pub BestKept : Tables → Type 0
BestKept t =
    (w : ℕ) → w < workshops t →
    BestOf (row_worth t) (rows_at t (asked (market t).wish (final (market t)) w) w) (bench_at t (final (market t)) w)

-- asking ends: nobody is turned down any more, after at most as many asks as there are entries
abbrev pub Ends : Tables → Type 0
Ends t = Reached (market t) (final (market t)) × Closed (market t) (final (market t)) × (asks (market t) ≤ length t.entries)

-- one after the other in any order, in groups or all together: whoever asks on until nobody is turned down comes to the same end, with
-- as many asks
abbrev pub AnyOrder : Tables → Type 0
AnyOrder t =
    (s : ℕ → ℕ) → Reached (market t) s → Closed (market t) s → ((a : ℕ) → s a ≡ final (market t) a) × (asks_at (market t) s ≡ asks (market t))

-- the end is stable, and no stable assignment gives anybody anything dearer
abbrev pub BestStable : Tables → Type 0
BestStable t =
    Stable (round_of t) (got (market t))
    × ((m : ℕ → ℕ) → Stable (round_of t) m → (a : ℕ) → a < applicants t → rank (list_at t a) (got (market t) a) ≤ rank (list_at t a) (m a))

-- whoever is left without a place, and how many have each workshop, are the same in all stable assignments
abbrev pub SameLeft : Tables → Type 0
SameLeft t =
    (m n : ℕ → ℕ) → Stable (round_of t) m → Stable (round_of t) n →
    ((a : ℕ) → a < applicants t → m a ≡ workshops t → n a ≡ workshops t)
    × ((w : ℕ) → w < workshops t → given m w (applicants t) ≡ given n w (applicants t))

-- the cuts are what they are said to be, and everybody is told the first of its list whose cut it reaches
abbrev pub FirstReached : Tables → Type 0
FirstReached t =
    ((w : ℕ) → w < workshops t → CutDefined t w (cut_at t w))
    × ((a : ℕ) → a < applicants t → told (market t) a ≡ first_reached (λ j. reaches_cut t a (slice_index (list_at t a) j)) (list_length t a))

-- the checker accepts every letter
abbrev pub LettersRight : Tables → Type 0
LettersRight t = (a : ℕ) → a < applicants t → Accepted (letter_of t a)

-- all that is promised of a round. fair says beside what is said above that no other list gets anybody anything dearer, and that what
-- everybody got is what the definition step by step comes to
pub record Promised (t : Tables) : Type 0 where
  pub best_kept : BestKept t
  pub ends : Ends t
  pub any_order : AnyOrder t
  pub best_stable : BestStable t
  pub same_left : SameLeft t
  pub first_reached : FirstReached t
  pub letters_right : LettersRight t
  pub fair : Fair t

-- of all bytes that are taken
abbrev pub OfAllRead : (Tables → Type 0) → Type 0
OfAllRead P = (b : List ℕ) (t : Tables) → BytesOnly b → decode b ≡ Ok t → P t

-- the checker accepts exactly the letters whose place is the first whose cut is reached
abbrev pub CheckerExact : Type 0
CheckerExact = (b : List ℕ) → BytesOnly b → Exact b (judged_bytes b)

-- u is t with another list of a: the lists of all others, places, lots and points are the same
pub record OtherList (t u : Tables) (a : ℕ) : Type 0 where
  pub seats : u.seats ≡ t.seats
  pub lots : u.lots ≡ t.lots
  pub row_starts : u.row_starts ≡ t.row_starts
  pub row_applicants : u.row_applicants ≡ t.row_applicants
  pub row_points : u.row_points ≡ t.row_points
  pub others : (c : ℕ) → c < applicants t → c ≢ a → list_at u c ≡ list_at t c

-- two rounds that are read, of which the second is the first with another list of a
abbrev pub OfTwoRead : (Tables → Tables → ℕ → Type 0) → Type 0
OfTwoRead P =
    (b c : List ℕ) (t u : Tables) (a : ℕ) → BytesOnly b → BytesOnly c → decode b ≡ Ok t → decode c ≡ Ok u → a < applicants t → OtherList t u a → P t u a

-- no other list gets a anything that is dearer to it, by its true list, than what its true list gets it
abbrev pub Truthful : Type 0
Truthful = OfTwoRead (λ t u a. rank (list_at t a) (got (market t) a) ≤ rank (list_at t a) (got (market u) a))

-- if a had an empty list and sends one, nobody else gets anything dearer than before
abbrev pub OneMore : Type 0
OneMore =
    OfTwoRead (λ t u a.
    list_length t a ≡ 0 → (c : ℕ) → c < applicants t → c ≢ a → rank (list_at t c) (got (market t) c) ≤ rank (list_at t c) (got (market u) c))
