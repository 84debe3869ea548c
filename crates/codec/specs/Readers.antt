-- What each reader answers, by the place in the bytes that it is given. Definitions only.
use Rattle.std.specs.Prelude.{◌≡◌, ℕ, zero, suc, ◌+◌, Bool, false, cond, not, ◌&&◌, ◌||◌, List, length, Some, None, Option, ◌==◌, nat_le, nat_lt}
use Rattle.layout.specs.Slices.{or_else}
use Rattle.layout.specs.Tables.{most_entries, most_rows}
use Rattle.layout.specs.Bytes.{byte, word, missing, refuse, first_of}
use Rattle.layout.specs.declared.Refusal.{Refusal}
use Rattle.layout.specs.declared.Refusal.TheVariants.{LongList, BadEntry, LotTaken, ManyRows, BadRow, RowOrder}
use Rattle.codec.specs.declared.bytes.Reader.{Reader}

-- the reader reads b, and the next number stands at `at`
pub record Stands (r : Reader) (b : List ℕ) (at : ℕ) : Type 0 where
  pub same : r.bytes.now ≡ b
  pub place : r.at ≡ at

-- v, where the k bytes at `at` are all there
abbrev pub there : {T : Type 0} → List ℕ → ℕ → ℕ → T → Option T
there b at k v = cond (nat_lt (length b) (at + k)) None (Some v)

-- w is one of the j bytes from `from` on
unfoldable pub stands_in : List ℕ → ℕ → ℕ → ℕ → Bool
stands_in b «from» w zero = false
stands_in b «from» w (suc j) = byte b («from» + j) == w || stands_in b «from» w j

-- the entry j of the list at `at`, of a round of m workshops
abbrev pub entry_fault_at : List ℕ → ℕ → ℕ → ℕ → Option Refusal
entry_fault_at b m at j =
    or_else (missing b (at + 1 + j) 1)
    (refuse (nat_le m (byte b (at + 1 + j)) || stands_in b (at + 1) (byte b (at + 1 + j)) j) (BadEntry (at + 1 + j)))

-- the list at `at`: its count and its entries
abbrev pub list_fault_at : List ℕ → ℕ → ℕ → Option Refusal
list_fault_at b m at =
    or_else (missing b at 1)
    (or_else (refuse (nat_lt most_entries (byte b at)) (LongList at))
    (first_of (entry_fault_at b m at) (byte b at)))

-- the record at `at`, whose lot is there, and taken or not
abbrev pub record_fault_at : List ℕ → ℕ → Bool → ℕ → Option Refusal
record_fault_at b m taken at = or_else (refuse taken (LotTaken at)) (list_fault_at b m (at + 2))

-- the number of rows, at `at`
abbrev pub count_fault_at : List ℕ → ℕ → Option Refusal
count_fault_at b at = or_else (missing b at 2) (refuse (nat_lt most_rows (word b at)) (ManyRows at))

-- the row at `at`, of a round of n applicants and m workshops, where no row may come before applicant a of workshop w
abbrev pub row_fault_at : List ℕ → ℕ → ℕ → ℕ → ℕ → ℕ → Option Refusal
row_fault_at b n m w a at =
    or_else (missing b at 1)
    (or_else (refuse (nat_le m (byte b at)) (BadRow at))
    (or_else (missing b (at + 1) 2)
    (or_else (refuse (nat_le n (word b (at + 1))) (BadRow at))
    (or_else (missing b (at + 3) 2)
    (or_else (refuse (word b (at + 3) == 0) (BadRow at))
    (refuse (not (nat_lt w (byte b at) || (w == byte b at && nat_le a (word b (at + 1))))) (RowOrder at)))))))
