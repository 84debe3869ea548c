-- What is read lies at the front of the slices: cut to the sizes it is the tables that the bytes say, and so a round.
use Rattle.std.proofs.Common.{◌≡◌, ℕ, ◌≤◌, List, length, take, drop, None, sym, subst, arith}
use Rattle.std.proofs.lemmas.List.{take_at, length-append}
use Rattle.layout.specs.Slices.{over}
use Rattle.layout.specs.Tables.{tables, Proper}
use Rattle.layout.specs.Bytes.{tables_in, sizes_in, fault}
use Rattle.layout.specs.Encode.{BytesOnly}
use Rattle.layout.proofs.Told.{length_seats, length_lots, length_starts, length_entries, length_row_starts, length_row_applicants, length_row_points}
use Rattle.layout.proofs.RoundTrip.{proper_from_no_fault}
use Rattle.codec.specs.Fronts.{fronts, Ready}

take_over : (n : ℕ) (xs old : List ℕ) → length xs ≡ n → take n (over xs old) ≡ xs
take_over n xs old e = take_at xs (drop (length xs) old) n e

over_room : (n : ℕ) (xs old : List ℕ) → length xs ≡ n → n ≤ length (over xs old)
over_room n xs old e = omega (arith, length-append xs (drop (length xs) old))

module _ (b : List ℕ) (seats lots starts entries row_starts row_applicants row_points : List ℕ) where
  pub fronts_over :
      fronts (sizes_in b) (over (tables_in b).seats seats) (over (tables_in b).lots lots) (over (tables_in b).starts starts) (over (tables_in b).entries entries) (over (tables_in b).row_starts row_starts) (over (tables_in b).row_applicants row_applicants) (over (tables_in b).row_points row_points)
      ≡ tables_in b
  fronts_over =
      λ i. tables
      (take_over _ (tables_in b).seats seats (length_seats b) i)
      (take_over _ (tables_in b).lots lots (length_lots b) i)
      (take_over _ (tables_in b).starts starts (length_starts b) i)
      (take_over _ (tables_in b).entries entries (length_entries b) i)
      (take_over _ (tables_in b).row_starts row_starts (length_row_starts b) i)
      (take_over _ (tables_in b).row_applicants row_applicants (length_row_applicants b) i)
      (take_over _ (tables_in b).row_points row_points (length_row_points b) i)

  pub ready_over : BytesOnly b → fault b ≡ None →
      Ready (sizes_in b) (over (tables_in b).seats seats) (over (tables_in b).lots lots) (over (tables_in b).starts starts) (over (tables_in b).entries entries) (over (tables_in b).row_starts row_starts) (over (tables_in b).row_applicants row_applicants) (over (tables_in b).row_points row_points)
  ready_over small none =
      record {
        roomy =
            record {
              for_seats = over_room _ (tables_in b).seats seats (length_seats b);
              for_lots = over_room _ (tables_in b).lots lots (length_lots b);
              for_starts = over_room _ (tables_in b).starts starts (length_starts b);
              for_entries = over_room _ (tables_in b).entries entries (length_entries b);
              for_row_starts = over_room _ (tables_in b).row_starts row_starts (length_row_starts b);
              for_row_applicants = over_room _ (tables_in b).row_applicants row_applicants (length_row_applicants b);
              for_row_points = over_room _ (tables_in b).row_points row_points (length_row_points b);
            };
        proper = subst Proper (sym fronts_over) (proper_from_no_fault b small none);
      }
