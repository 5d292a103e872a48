-- What the checks between pages answer together.
use Rattle.std.proofs.Common.{◌≡◌, ℕ, Bool, ◌||◌, List, [], ◌++◌, Option, Result, Err, sym, ap, subst, ◌∙◌, append_assoc}
use Rattle.std.proofs.Math.Path.{fun_ext}
use Rattle.comp_history.specs.Setup.{Setup}
use Rattle.comp_dump.specs.Dumped.{BuiltPage}
use Rattle.comp_dump.specs.declared.fault.AuditFault.{AuditFault}
use Rattle.comp_audit.specs.declared.checks.fault.CheckEnd.{CheckEnd}
use Rattle.comp_audit.specs.Checks.{all_entries, all_stamps, each_built, is_led, is_made_before, is_forwarding_address, is_start, late_faults, missing_faults, reference_faults, repeat_faults}
use Rattle.comp_audit.specs.Reported.{history_faults, Reports}
use Rattle.comp_audit.specs.Noted.{is_noted_before, leads, Notes, Stamped}
use Rattle.heap_layout.proofs.Rows.{append-none}
use Rattle.comp_audit.proofs.Reporting.{reports_first, reports_then}

module _ (u : Setup) (records : List (Option BuiltPage)) (starts : Stamped) (notes : Notes starts (all_entries records)) where
  abbrev loose : (ℕ → Bool) → List AuditFault
  loose leading = each_built (reference_faults leading u) records

  abbrev stamp_faults : List AuditFault
  stamp_faults = repeat_faults (all_stamps records) ++ missing_faults (all_stamps records)

  abbrev late : (ℕ → ℕ → Bool) → List AuditFault
  late is_before = late_faults (is_led u.heap is_before) records

  -- the starts that were noted are those of the entries
  leads_are : leads u.heap starts ≡ is_start u.heap (all_entries records)
  leads_are = fun_ext (λ (a : ℕ). ap (λ (b : Bool). is_forwarding_address u.heap a || b) (notes.some a))

  before_are : is_noted_before starts ≡ is_made_before (all_entries records)
  before_are = fun_ext (λ (a : ℕ). fun_ext (λ (n : ℕ). notes.older a n))

  none_loose : loose (leads u.heap starts) ≡ [] → loose (is_start u.heap (all_entries records)) ≡ []
  none_loose none = ap loose (sym leads_are) ∙ none

  -- the check of references ends early, or that of stamps does, or all are passed up to the last
  pub references_end : (why : CheckEnd) → Reports (loose (leads u.heap starts)) (Err why) → Reports (history_faults u records) (Err why)
  references_end why reported =
      reports_first (loose (is_start u.heap (all_entries records))) _ why (subst (λ (f : ℕ → Bool). Reports (loose f) (Err why)) leads_are reported)

  pub stamps_end : (why : CheckEnd) → loose (leads u.heap starts) ≡ [] → Reports stamp_faults (Err why) → Reports (history_faults u records) (Err why)
  stamps_end why none reported =
      reports_then (loose (is_start u.heap (all_entries records))) _ (Err why) (none_loose none)
      (subst (λ (l : List AuditFault). Reports l (Err why))
      (append_assoc (repeat_faults (all_stamps records)) (missing_faults (all_stamps records)) (late (is_made_before (all_entries records))))
      (reports_first stamp_faults (late (is_made_before (all_entries records))) why reported))

  pub late_end : (result : Result (Unit {0}) CheckEnd) → loose (leads u.heap starts) ≡ [] → stamp_faults ≡ [] → Reports (late (is_noted_before starts)) result
      → Reports (history_faults u records) result
  late_end result none stamps reported =
      let both = append-none (repeat_faults (all_stamps records)) (missing_faults (all_stamps records)) stamps in
      reports_then (loose (is_start u.heap (all_entries records))) _ result (none_loose none)
      (reports_then (repeat_faults (all_stamps records)) _ result both.0
      (reports_then (missing_faults (all_stamps records)) _ result both.1
      (subst (λ (f : ℕ → ℕ → Bool). Reports (late f) result) before_are reported)))
