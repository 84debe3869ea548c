-- What asking and the writing of letters leave in memory that has just their size.
use Rattle.std.proofs.Common.{◌≡◌, ℕ, List, length, get_or, take, arith}
use Rattle.std.proofs.lemmas.List.{take_all}
use Rattle.layout.specs.Tables.{Tables, Proper, applicants, workshops}
use Rattle.layout.proofs.Flats.{length_table, flat_same}
use Rattle.points.specs.Standing.{market, rows_found}
use Rattle.asking.specs.Ended.{told, benches_of}
use Rattle.asking.proofs.Found.{length_rows_found}
use Rattle.letters.specs.Settled.{Settled}
use Rattle.letters.specs.Written.{all_letters}
use Rattle.letters.proofs.Told.{letters_settled}
use Rattle.office.specs.Outcome.{results_of, letter_of, letters_of}
use Rattle.office.proofs.Laid.{length_benches}

front : (n : ℕ) (xs ys : List ℕ) → xs ≡ ys → length ys ≡ n → take n xs ≡ ys
front n xs ys same long = rw same (take_all n ys (omega arith))

module _ (t : Tables) (proper : Proper t) where
  pub length_results : length (results_of t) ≡ applicants t
  unfolding results_of
  length_results = length_table (told (market t)) (applicants t)

  -- the letters that are written are those of the round
  module _ (rows results benches : List ℕ) (found : rows ≡ rows_found t) (told_in : results ≡ results_of t) (seated : benches ≡ benches_of t) where
    settled : Settled t rows results benches
    unfolding results_of
    settled =
        record {
          rows_are = front (length t.entries) rows (rows_found t) found (length_rows_found t proper);
          results_are = front (applicants t) results (results_of t) told_in length_results;
          benches_are = front (get_or t.seats (workshops t) 0) benches (benches_of t) seated (length_benches t proper);
        }

    pub letters_written : all_letters t rows results benches ≡ letters_of t
    unfolding letters_of letter_of
    letters_written = flat_same _ _ (applicants t) (λ a l. (letters_settled t rows results benches proper settled a l).0)
