-- The rows, judged by their place and by where each may stand at the earliest: the same as judged by their index.
use Rattle.std.proofs.Common.{◌≡◌, ℕ, zero, suc, ◌+◌, not, ◌&&◌, ◌||◌, eqb, ltb, leb, List, refl, ap, add-one, arith}
use Rattle.std.proofs.lemmas.Bool.Decides.{nat_tests}
use Rattle.layout.specs.Bytes.{applicants_in, workshops_in, row_at, row_workshop_in, row_applicant_in, out_of_order, row_fault}
use Rattle.codec.specs.Readers.{row_fault_at}

-- where row i may stand at the earliest: after the row before it
unfoldable pub least_workshop : List ℕ → ℕ → ℕ
least_workshop b zero = 0
least_workshop b (suc i) = row_workshop_in b i

unfoldable pub least_applicant : List ℕ → ℕ → ℕ
least_applicant b zero = 0
least_applicant b (suc i) = row_applicant_in b i + 1

module _ (b : List ℕ) where
  out_of_order_is : (i : ℕ) → out_of_order b i ≡
      not (ltb (least_workshop b i) (row_workshop_in b i) || (eqb (least_workshop b i) (row_workshop_in b i) && leb (least_applicant b i) (row_applicant_in b i)))
  unfolding out_of_order least_workshop least_applicant
  out_of_order_is zero = grind (arith, nat_tests)
  out_of_order_is (suc i) = let e = add-one (row_applicant_in b i) in rw e

  -- row i by its place, with any names for the numbers that judge it
  pub row_fault_is : (i n m w a : ℕ) → n ≡ applicants_in b → m ≡ workshops_in b → w ≡ least_workshop b i → a ≡ least_applicant b i →
      row_fault b i ≡ row_fault_at b n m w a (row_at b i)
  row_fault_is i n m w a en em ew ea = rw (out_of_order_is, en, em, ew, ea)

  pub least_workshop_none : least_workshop b 0 ≡ 0
  unfolding least_workshop
  least_workshop_none = refl

  pub least_applicant_none : least_applicant b 0 ≡ 0
  unfolding least_applicant
  least_applicant_none = refl

  pub least_workshop_more : (i : ℕ) → least_workshop b (i + 1) ≡ row_workshop_in b i
  unfolding least_workshop
  least_workshop_more i = ap (λ (k : ℕ). least_workshop b k) (add-one i)

  pub least_applicant_more : (i : ℕ) → least_applicant b (i + 1) ≡ row_applicant_in b i + 1
  unfolding least_applicant
  least_applicant_more i = ap (λ (k : ℕ). least_applicant b k) (add-one i)
