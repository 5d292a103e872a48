-- Which compacted pages were never built.
use Rattle.std.proofs.Common.{◌≡◌, ◌+◌, ◌<◌, ℕ, inl, inr, Bool, true, false, List, [], get_or, is_some, Option, None, ap, arith, refl, subst, sym}
use Rattle.std.proofs.lemmas.Bool.{cases_lt}
use Rattle.heap_layout.specs.Faults.{unless, IsFirst}
use Rattle.comp_dump.specs.Dumped.{BuiltPage}
use Rattle.comp_dump.specs.declared.fault.AuditFault.{AuditFault}
use Rattle.comp_dump.specs.declared.fault.AuditFault.TheVariants.{PageMissing}
use Rattle.comp_audit.proofs.Ranges.{first_in_range, none_in_range}
use Rattle.comp_audit.specs.Judged.{missing_pages}

-- the pages below p were built
abbrev pub BuiltBelow : List (Option BuiltPage) → ℕ → Type 0
BuiltBelow records p = (q : ℕ) → q < p → is_some (get_or records q None) ≡ true

-- so was the next one
pub built_next : (records : List (Option BuiltPage)) (p : ℕ) → BuiltBelow records p → is_some (get_or records p None) ≡ true → BuiltBelow records (p + 1)
built_next records p below here q lt =
    elim (cases_lt q p) [
      | inl before ↦ below q before
      | inr after ↦ subst (λ (k : ℕ). is_some (get_or records k None) ≡ true) (omega (arith, lt, after)) here
    ]

abbrev missing : List (Option BuiltPage) → ℕ → List AuditFault
missing records q = unless (is_some (get_or records q None)) (PageMissing q)

-- the first page that was not built
pub first_page_missing : (records : List (Option BuiltPage)) (n p : ℕ) → p < n → BuiltBelow records p → is_some (get_or records p None) ≡ false
    → IsFirst (missing_pages n records) (PageMissing p)
first_page_missing records n p lt below here =
    first_in_range (missing records) 0 n p (PageMissing p) (omega arith) (omega (arith, lt)) (λ q ge before. ap (λ (b : Bool). unless b (PageMissing q)) (below q before))
    (subst (λ (b : Bool). IsFirst (unless b (PageMissing p)) (PageMissing p)) (sym here) refl)

-- each of them was built
pub no_page_missing : (records : List (Option BuiltPage)) (n : ℕ) → BuiltBelow records n → missing_pages n records ≡ []
no_page_missing records n below = none_in_range (missing records) 0 n (λ q ge lt. ap (λ (b : Bool). unless b (PageMissing q)) (below q (omega (arith, lt))))
