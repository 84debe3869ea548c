-- Rounds worked out by hand, with what must come out, in one table. Points are by workshop, in the order of applicants; 0 points
-- are no row. The first applicant's lot is 1, the second's 2, and so on. Nowhere is told as `none`.
use Rattle.std.specs.Prelude.{◌≡◌, ℕ, suc, Bool, true, false, List, [], ◌∷◌, map, length, Decides, nat_lt, slice_index_or}
use Rattle.std.proofs.Math.Option.{Option, some, none}
use Rattle.std.specs.List.{range_with_len, AllByRecursion}
use Rattle.round.specs.Places.{Round, result, nowhere, pick}
use Rattle.round.specs.Promise.{Proper, Stable}
use Rattle.round.specs.ByPoints.{worth_of}
use Rattle.round.specs.Cuts.{Told, is_open, is_shut, is_full, told_at}
use Rattle.round.specs.Office.{asks_of}

-- what comes out of a round: what each applicant got, each workshop's cut, the number of asks
pub record Outcome : Type 0 where
  pub got : List (Option ℕ)
  pub cuts : List Told
  pub asks : ℕ

unfoldable pub outcome_of : Round → Outcome
outcome_of r =
    record {
      got = map (λ a. pick (nat_lt (result r a) (nowhere r)) (some (result r a)) none) (range_with_len 0 (length r.lists));
      cuts = map (told_at r (result r)) (range_with_len 0 (length r.places));
      asks = asks_of r;
    }

-- the worths of points in the order of applicants, the first of whom has the lot l
unfoldable pub worths : ℕ → List ℕ → List ℕ
worths l [] = []
worths l (p ∷ ps) = worth_of p l ∷ worths (suc l) ps

unfoldable pub round_of : List (List ℕ) → List ℕ → List (List ℕ) → Round
round_of lists places points = record { lists = lists; places = places; points = map (worths 1) points }

-- a round, and what must come out of it
pub record Worked : Type 0 where
  pub round : Round
  pub outcome : Outcome

-- four applicants of different lists; one of them is left without a place
unfoldable pub round_a : Round
round_a =
    round_of ((0 ∷ 1 ∷ []) ∷ (0 ∷ []) ∷ (1 ∷ 0 ∷ []) ∷ (0 ∷ 1 ∷ 2 ∷ []) ∷ []) (1 ∷ 1 ∷ 1 ∷ [])
    ((10 ∷ 30 ∷ 20 ∷ 25 ∷ []) ∷ (40 ∷ 0 ∷ 15 ∷ 35 ∷ []) ∷ (0 ∷ 0 ∷ 0 ∷ 5 ∷ []) ∷ [])

-- the same, but the first leaves out what it does not get
unfoldable pub round_a1 : Round
round_a1 =
    round_of ((1 ∷ []) ∷ (0 ∷ []) ∷ (1 ∷ 0 ∷ []) ∷ (0 ∷ 1 ∷ 2 ∷ []) ∷ []) (1 ∷ 1 ∷ 1 ∷ [])
    ((10 ∷ 30 ∷ 20 ∷ 25 ∷ []) ∷ (40 ∷ 0 ∷ 15 ∷ 35 ∷ []) ∷ (0 ∷ 0 ∷ 0 ∷ 5 ∷ []) ∷ [])

-- two who get what they want, though the workshops would have it the other way round
unfoldable pub round_b : Round
round_b = round_of ((0 ∷ 1 ∷ []) ∷ (1 ∷ 0 ∷ []) ∷ []) (1 ∷ 1 ∷ []) ((1 ∷ 2 ∷ []) ∷ (2 ∷ 1 ∷ []) ∷ [])

-- empty lists
unfoldable pub round_c : Round
round_c = round_of ([] ∷ [] ∷ []) (2 ∷ []) ((3 ∷ 4 ∷ []) ∷ [])

-- an ask where one has no points
unfoldable pub round_d : Round
round_d = round_of ((0 ∷ []) ∷ (0 ∷ []) ∷ []) (2 ∷ []) ((0 ∷ 7 ∷ []) ∷ [])

-- a workshop without places
unfoldable pub round_e : Round
round_e = round_of ((0 ∷ 1 ∷ []) ∷ []) (0 ∷ 1 ∷ []) ((9 ∷ []) ∷ (9 ∷ []) ∷ [])

-- four who all want the same
unfoldable pub round_f : Round
round_f =
    round_of ((0 ∷ 1 ∷ 2 ∷ []) ∷ (0 ∷ 1 ∷ 2 ∷ []) ∷ (0 ∷ 1 ∷ 2 ∷ []) ∷ (0 ∷ 1 ∷ 2 ∷ []) ∷ []) (1 ∷ 1 ∷ 1 ∷ [])
    ((4 ∷ 3 ∷ 2 ∷ 1 ∷ []) ∷ (4 ∷ 3 ∷ 2 ∷ 1 ∷ []) ∷ (4 ∷ 3 ∷ 2 ∷ 1 ∷ []) ∷ [])

unfoldable pub worked : List Worked
worked =
    record { round = round_a; outcome = record { got = some 1 ∷ some 0 ∷ none ∷ some 2 ∷ []; cuts = is_full 30 2 ∷ is_full 40 1 ∷ is_full 5 4 ∷ []; asks = 8 } }
    ∷ record { round = round_a1; outcome = record { got = some 1 ∷ some 0 ∷ none ∷ some 2 ∷ []; cuts = is_full 30 2 ∷ is_full 40 1 ∷ is_full 5 4 ∷ []; asks = 7 } }
    ∷ record { round = round_b; outcome = record { got = some 0 ∷ some 1 ∷ []; cuts = is_full 1 1 ∷ is_full 1 2 ∷ []; asks = 2 } }
    ∷ record { round = round_c; outcome = record { got = none ∷ none ∷ []; cuts = is_open ∷ []; asks = 0 } }
    ∷ record { round = round_d; outcome = record { got = none ∷ some 0 ∷ []; cuts = is_open ∷ []; asks = 2 } }
    ∷ record { round = round_e; outcome = record { got = some 1 ∷ []; cuts = is_shut ∷ is_full 9 1 ∷ []; asks = 2 } }
    ∷ record { round = round_f; outcome = record { got = some 0 ∷ some 1 ∷ some 2 ∷ none ∷ []; cuts = is_full 4 1 ∷ is_full 3 2 ∷ is_full 2 3 ∷ []; asks = 9 } }
    ∷ []

-- of each round in the table comes out what stands beside it
unfoldable pub WorkedOut : Type 0
WorkedOut = map (λ w. outcome_of w.round) worked ≡ map (λ w. w.outcome) worked

-- and each of them is a proper round, so that all that is promised holds of it
unfoldable pub AllProper : Type 0
AllProper = AllByRecursion (λ w. Proper w.round) worked

-- an assignment written as a list; who does not stand in it is nowhere
unfoldable pub assignment : Round → List (Option ℕ) → ℕ → ℕ
assignment r l a = elim (slice_index_or l a none) [ none ↦ nowhere r | some p ↦ p ]

-- an assignment, and whether it is stable
pub record Judged : Type 0 where
  pub round : Round
  pub gets : List (Option ℕ)
  pub stable : Bool

unfoldable pub judged : List Judged
judged =
    -- what comes out of the first round; and what comes out if each in turn takes the first of its list that is free, by lot alone; if
    -- a place once given is not asked again; if one workshop takes more than its places
    record { round = round_a; gets = some 1 ∷ some 0 ∷ none ∷ some 2 ∷ []; stable = true }
    ∷ record { round = round_a; gets = some 0 ∷ none ∷ some 1 ∷ some 2 ∷ []; stable = false }
    ∷ record { round = round_a; gets = none ∷ some 0 ∷ some 1 ∷ some 2 ∷ []; stable = false }
    ∷ record { round = round_a; gets = some 1 ∷ some 0 ∷ some 1 ∷ some 2 ∷ []; stable = false }
    -- the dearest stable assignment of two, and the other; nobody placed
    ∷ record { round = round_b; gets = some 0 ∷ some 1 ∷ []; stable = true }
    ∷ record { round = round_b; gets = some 1 ∷ some 0 ∷ []; stable = true }
    ∷ record { round = round_b; gets = none ∷ none ∷ []; stable = false }
    -- a place that is not in the list; one without points; one that is not there; a place left free
    ∷ record { round = round_c; gets = some 0 ∷ none ∷ []; stable = false }
    ∷ record { round = round_d; gets = some 0 ∷ some 0 ∷ []; stable = false }
    ∷ record { round = round_e; gets = some 0 ∷ []; stable = false }
    ∷ record { round = round_f; gets = some 0 ∷ some 1 ∷ none ∷ none ∷ []; stable = false }
    ∷ []

-- the given definition of a stable assignment tells them apart
unfoldable pub ToldApart : Type 0
ToldApart = AllByRecursion (λ j. Decides j.stable (Stable j.round (assignment j.round j.gets))) judged
