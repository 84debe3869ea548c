-- The first fault of a whole round, part by part.
use Rattle.std.proofs.Common.{◌≡◌, ℕ, List, Some, None, ◌∙◌}
use Rattle.layout.specs.Slices.{or_else}
use Rattle.layout.specs.Bytes.{workshops_in, applicants_in, rows_in, first_of, head_fault, places_fault, record_fault, rows_fault, row_fault, end_fault, fault}
use Rattle.layout.specs.declared.Refusal.{Refusal}
use Rattle.layout.proofs.Firsts.{or_else_past, or_else_some}

module _ (b : List ℕ) where
  pub fault_in_head : (e : Refusal) → head_fault b ≡ Some e → fault b ≡ Some e
  unfolding fault
  fault_in_head e h = or_else_some _ _ _ h

  module _ (no_head : head_fault b ≡ None) where
    pub fault_in_places : (e : Refusal) → first_of (places_fault b) (workshops_in b) ≡ Some e → fault b ≡ Some e
    unfolding fault
    fault_in_places e h = or_else_past _ _ no_head ∙ or_else_some _ _ _ h

    module _ (no_places : first_of (places_fault b) (workshops_in b) ≡ None) where
      pub fault_in_records : (e : Refusal) → first_of (record_fault b) (applicants_in b) ≡ Some e → fault b ≡ Some e
      unfolding fault
      fault_in_records e h = or_else_past _ _ no_head ∙ (or_else_past _ _ no_places ∙ or_else_some _ _ _ h)

      module _ (no_records : first_of (record_fault b) (applicants_in b) ≡ None) where
        fault_past_records : fault b ≡ or_else (rows_fault b) (or_else (first_of (row_fault b) (rows_in b)) (end_fault b))
        unfolding fault
        fault_past_records = or_else_past _ _ no_head ∙ (or_else_past _ _ no_places ∙ or_else_past _ _ no_records)

        pub fault_in_row_count : (e : Refusal) → rows_fault b ≡ Some e → fault b ≡ Some e
        fault_in_row_count e h = fault_past_records ∙ or_else_some _ _ _ h

        module _ (no_count : rows_fault b ≡ None) where
          pub fault_in_rows : (e : Refusal) → first_of (row_fault b) (rows_in b) ≡ Some e → fault b ≡ Some e
          fault_in_rows e h = fault_past_records ∙ (or_else_past _ _ no_count ∙ or_else_some _ _ _ h)

          pub fault_at_end : first_of (row_fault b) (rows_in b) ≡ None → fault b ≡ end_fault b
          fault_at_end h = fault_past_records ∙ (or_else_past _ _ no_count ∙ or_else_past _ _ h)
