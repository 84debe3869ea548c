-- Reading and writing are inverse to each other: what is read without a fault is proper and written as it was read, and what is
-- written is read without a fault as it was.
use Rattle.std.proofs.Common.{◌≡◌, ℕ, List, Some, None, Ok, Option, refl, ap, arith}
use Rattle.layout.specs.Slices.{outcome}
use Rattle.layout.specs.Tables.{Tables, Proper}
use Rattle.layout.specs.Bytes.{fault, tables_in, decode}
use Rattle.layout.specs.Encode.{encode, BytesOnly, AllAsWritten, ReadsBack}
use Rattle.layout.proofs.Clean.{clean_from_none, none_from_clean}
use Rattle.layout.proofs.ReadProper.{read_proper}
use Rattle.layout.proofs.Says.{says_read}
use Rattle.layout.proofs.Written.{written}
use Rattle.layout.proofs.Encoded.{says_encode}
use Rattle.layout.proofs.Said.{read_said, clean_said}

pub proper_from_no_fault : (b : List ℕ) → BytesOnly b → fault b ≡ None → Proper (tables_in b)
proper_from_no_fault b small none = read_proper b (clean_from_none b none) small

pub encode_tables_in : (b : List ℕ) → BytesOnly b → fault b ≡ None → encode (tables_in b) ≡ b
encode_tables_in b small none =
    written b (tables_in b) (proper_from_no_fault b small none) (says_read b (clean_from_none b none)) small

pub no_fault_encode : (t : Tables) → Proper t → fault (encode t) ≡ None
no_fault_encode t p = none_from_clean (encode t) (clean_said (encode t) t p (says_encode t p))

pub tables_in_encode : (t : Tables) → Proper t → tables_in (encode t) ≡ t
tables_in_encode t p = read_said (encode t) t p (says_encode t p)

-- an outcome is a value exactly where there is no fault
pub outcome_ok : {T E : Type 0} (f : Option E) (v x : T) → outcome f v ≡ Ok x → (f ≡ None) × (v ≡ x)
outcome_ok None v x h = (refl, cc)
outcome_ok (Some e) v x h = let z : ◌≡◌ {A = ℕ} 0 1 = cc in absurd (omega arith)

pub reads_back : ReadsBack
unfolding decode
reads_back t p = rw (no_fault_encode t p) (ap Ok (tables_in_encode t p))

-- what is written as b is what is read from b
read_from_written : (b : List ℕ) (t : Tables) → Proper t → encode t ≡ b → decode b ≡ Ok t
read_from_written b t p e = rw e at (reads_back t p)

pub all_as_written : AllAsWritten
unfolding decode
all_as_written b small =
    record {
      sound = λ t h.
          let (none, is) = outcome_ok (fault b) (tables_in b) t h in
          let both : Proper (tables_in b) × (encode (tables_in b) ≡ b) = (proper_from_no_fault b small none, encode_tables_in b small none) in
          rw is at both;
      complete = read_from_written b;
      refused = λ e h t p w.
          let read = read_from_written b t p w in
          let z : ◌≡◌ {A = ℕ} 0 1 = cc in
          omega arith;
    }
