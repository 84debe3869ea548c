-- The answer of the whole check, from the answers of its parts in turn: each part that was passed adds what it found.
use Rattle.std.proofs.Common.{◌≡◌, ℕ, ◌+◌, ◌-◌, ◌*◌, ◌<◌, ◌≤◌, ltb, List, length, Some, None, Ok, Err, Option, Result, sym, ap, ◌∙◌, arith}
use Rattle.std.proofs.lemmas.Bool.Decides.{nat_tests}
use Rattle.layout.specs.Slices.{outcome}
use Rattle.layout.specs.Bytes.{word, refuse, workshops_in, applicants_in, rows_in, rows_from, record_at, start_of, row_at, sizes_in, first_of, head_fault, places_fault, record_fault, rows_fault, row_fault, fault}
use Rattle.layout.specs.declared.Refusal.{Refusal}
use Rattle.layout.specs.declared.Refusal.TheVariants.{Trailing}
use Rattle.layout.specs.declared.Sizes.{Sizes}
use Rattle.codec.specs.declared.judge.Head.{Head}
use Rattle.codec.specs.declared.bytes.Reader.{Reader}
use Rattle.codec.specs.Readers.{Stands, count_fault_at}
use Rattle.codec.proofs.Faults.{fault_in_head, fault_in_places, fault_in_records, fault_in_row_count, fault_in_rows, fault_at_end}
use Rattle.layout.proofs.Offsets.{record_at_none, record_at_is}
use Rattle.codec.proofs.Firsts.{fault_from_err, none_from_ok}

-- the check's answer, and a part's: an error of the part is the check's
abbrev Answered : List ℕ → Result Sizes Refusal → Type 0
Answered b r = r ≡ outcome (fault b) (sizes_in b)

abbrev Part : {T : Type 0} → Result T Refusal → Option Refusal → T → Type 0
Part r f v = r ≡ outcome f v

refused : (b : List ℕ) (e : Refusal) → fault b ≡ Some e → Answered b (Err e)
refused b e h = rw h

pub same_sizes : {n n' m m' e e' k k' : ℕ} → n ≡ n' → m ≡ m' → e ≡ e' → k ≡ k' →
    ◌≡◌ {A = Sizes} (record { applicants = n; workshops = m; entries = e; rows = k }) (record { applicants = n'; workshops = m'; entries = e'; rows = k' })
same_sizes en em ee ek = λ i. record { applicants = en i; workshops = em i; entries = ee i; rows = ek i }

abbrev head_of : List ℕ → Head
head_of b = record { applicants = applicants_in b; workshops = workshops_in b }

-- a part that answers with nothing but a fault
abbrev Fails : Refusal → Option Refusal → Type 0
Fails e f = Part {T = Unit {0}} (Err e) f tt

abbrev Passes : Option Refusal → Type 0
Passes f = Part {T = Unit {0}} (Ok tt) f tt

module _ {b : List ℕ} {r : Reader} (s : Stands r b 0) where
  pub refused_by_head : {e : Refusal} → Part (Err e) (head_fault r.bytes.now) (head_of r.bytes.now) → Answered b (Err e)
  refused_by_head p = refused b _ (fault_in_head b _ (rw s.same at (fault_from_err _ _ _ p)))

  module _ {h : Head} (head : Part (Ok h) (head_fault r.bytes.now) (head_of r.bytes.now)) {r₁ : Reader} (s₁ : Stands r₁ r.bytes.now 4) where
    same₁ : r₁.bytes.now ≡ b
    same₁ = s₁.same ∙ s.same

    no_head : head_fault b ≡ None
    no_head = rw s.same at (none_from_ok _ _ _ head).0

    applicants_found : h.applicants ≡ applicants_in b
    applicants_found = rw s.same at (sym (ap (λ (x : Head). x.applicants) (none_from_ok _ _ _ head).1))

    workshops_found : h.workshops ≡ workshops_in b
    workshops_found = rw s.same at (sym (ap (λ (x : Head). x.workshops) (none_from_ok _ _ _ head).1))

    pub refused_by_places : {e : Refusal} → Fails e (first_of (places_fault r₁.bytes.now) h.workshops) → Answered b (Err e)
    refused_by_places p = refused b _ (fault_in_places b no_head _ (rw (same₁, workshops_found) at (fault_from_err _ _ _ p)))

    module _ (places : Passes (first_of (places_fault r₁.bytes.now) h.workshops)) {r₂ : Reader} (s₂ : Stands r₂ r₁.bytes.now (4 + h.workshops)) where
      same₂ : r₂.bytes.now ≡ b
      same₂ = s₂.same ∙ same₁

      no_places : first_of (places_fault b) (workshops_in b) ≡ None
      no_places = rw (same₁, workshops_found) at (none_from_ok _ _ _ places).0

      pub records_found : r₂.at ≡ record_at r₂.bytes.now 0
      records_found = rw same₂ (omega (arith, s₂.place, workshops_found, record_at_none b))

      pub refused_by_records : {e : Refusal} → Fails e (first_of (record_fault r₂.bytes.now) h.applicants) → Answered b (Err e)
      refused_by_records p = refused b _ (fault_in_records b no_head no_places _ (rw (same₂, applicants_found) at (fault_from_err _ _ _ p)))

      module _ (records : Passes (first_of (record_fault r₂.bytes.now) h.applicants)) {r₃ : Reader}
          (s₃ : Stands r₃ r₂.bytes.now (record_at r₂.bytes.now h.applicants)) where
        same₃ : r₃.bytes.now ≡ b
        same₃ = s₃.same ∙ same₂

        no_records : first_of (record_fault b) (applicants_in b) ≡ None
        no_records = rw (same₂, applicants_found) at (none_from_ok _ _ _ records).0

        rows_found : r₃.at ≡ rows_from b
        rows_found = rw (same₂, applicants_found) at s₃.place

        -- how far the records reach: three bytes each, and the entries
        pub entries_found : r₂.at + 3 * h.applicants + start_of b (applicants_in b) ≡ r₃.at
        entries_found = omega (arith, s₂.place, rows_found, applicants_found, workshops_found, record_at_is b (applicants_in b))

        pub refused_by_row_count : {e : Refusal} → Part (Err e) (count_fault_at r₃.bytes.now r₃.at) (word r₃.bytes.now r₃.at) → Answered b (Err e)
        refused_by_row_count p = refused b _ (fault_in_row_count b no_head no_places no_records _ (rw (same₃, rows_found) at (fault_from_err _ _ _ p)))

        module _ {k : ℕ} (counted : Part (Ok k) (count_fault_at r₃.bytes.now r₃.at) (word r₃.bytes.now r₃.at)) {r₄ : Reader}
            (s₄ : Stands r₄ r₃.bytes.now (r₃.at + 2)) where
          same₄ : r₄.bytes.now ≡ b
          same₄ = s₄.same ∙ same₃

          no_count : rows_fault b ≡ None
          no_count = rw (same₃, rows_found) at (none_from_ok _ _ _ counted).0

          row_count_found : k ≡ rows_in b
          row_count_found = rw (same₃, rows_found) at (sym (none_from_ok _ _ _ counted).1)

          pub refused_by_rows : {e : Refusal} → Fails e (first_of (row_fault r₄.bytes.now) k) → Answered b (Err e)
          refused_by_rows p = refused b _ (fault_in_rows b no_head no_places no_records no_count _ (rw (same₄, row_count_found) at (fault_from_err _ _ _ p)))

          module _ (rows : Passes (first_of (row_fault r₄.bytes.now) k)) {r₅ : Reader} (s₅ : Stands r₅ r₄.bytes.now (row_at r₄.bytes.now k)) where
            end_found : r₅.at ≡ row_at b (rows_in b)
            end_found = rw (same₄, row_count_found) at s₅.place

            fault_is : fault b ≡ refuse (ltb r₅.at (length b)) (Trailing r₅.at)
            fault_is =
                rw end_found (fault_at_end b no_head no_places no_records no_count (rw (same₄, row_count_found) at (none_from_ok _ _ _ rows).0))

            pub refused_by_end : r₅.at < length b → Answered b (Err (Trailing r₅.at))
            refused_by_end l = refused b _ (fault_is ∙ grind (arith, nat_tests))

            pub accepted : length b ≤ r₅.at → Answered b (Ok (record { applicants = h.applicants; workshops = h.workshops; entries = r₃.at - r₂.at - 3 * h.applicants; rows = k }))
            accepted l =
                let none : fault b ≡ None = fault_is ∙ grind (arith, nat_tests) in
                let e : r₃.at - r₂.at - 3 * h.applicants ≡ start_of b (applicants_in b) = omega (arith, entries_found) in
                ap Ok (same_sizes applicants_found workshops_found e row_count_found) ∙ sym (ap (λ o. outcome o (sizes_in b)) none)
