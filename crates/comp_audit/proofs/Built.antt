-- The faults of pages that were built, and what is known if there is none.
use Rattle.std.proofs.Common.{◌≡◌, ℕ, ◌+◌, ◌<◌, inl, inr, List, [], ◌++◌, length, get_or, Option, Some, None, refl, sym, subst, ◌∙◌, arith}
use Rattle.std.proofs.Math.ListN.{get_or-eq_default}
use Rattle.std.proofs.lemmas.Bool.{cases_lt}
use Rattle.std.proofs.lemmas.List.{get_or_default}
use Rattle.comp_history.specs.Lists.{Rises}
use Rattle.comp_history.specs.Setup.{Setup}
use Rattle.comp_history.specs.Lawful.{IsLawful}
use Rattle.comp_history.specs.Objects.{AreLawful}
use Rattle.comp_dump.specs.Dumped.{BuiltPage}
use Rattle.comp_dump.specs.declared.fault.AuditFault.{AuditFault}
use Rattle.comp_audit.specs.Checks.{of_built, each_built, journal_of, journals_in, build_faults, journal_faults, word_faults}
use Rattle.comp_audit.specs.Reported.{page_faults}
use Rattle.heap_layout.proofs.Rows.{append-none}
use Rattle.comp_audit.proofs.Reporting.{item_none, none_items}
use Rattle.comp_audit.proofs.Meanings.{faultless_is_lawful}

-- a page that was built is one of the records
pub built_inside : (records : List (Option BuiltPage)) (p : ℕ) (page : BuiltPage) → get_or records p None ≡ Some page → p < length records
built_inside records p page at =
    elim (cases_lt p (length records)) [
      | inl lt ↦ lt
      | inr le ↦ let none : get_or records p None ≡ None = get_or-eq_default records None le in absurd (cc)
    ]

-- pages have no fault if no single page has one
none_of : (f : ℕ → BuiltPage → List AuditFault) (records : List (Option BuiltPage)) (p k : ℕ) (kept : Option BuiltPage) → p < length records → k ≡ 0 + p
    → kept ≡ get_or records p kept → ((q : ℕ) (page : BuiltPage) → get_or records q None ≡ Some page → f q page ≡ []) → of_built f (k, kept) ≡ []
none_of f records p k None inside number is none = refl
none_of f records p k (Some page) inside number is none =
    let same : p ≡ k = omega (arith, number) in
    subst (λ (q : ℕ). f q page ≡ []) same (none p page (get_or_default records p None (Some page) inside ∙ sym is))

pub none_built : (f : ℕ → BuiltPage → List AuditFault) (records : List (Option BuiltPage))
    → ((p : ℕ) (page : BuiltPage) → get_or records p None ≡ Some page → f p page ≡ []) → each_built f records ≡ []
none_built f records none = none_items (of_built f) 0 records (λ p k kept inside number is. none_of f records p k kept inside number is none)

-- and conversely
pub built_none : (f : ℕ → BuiltPage → List AuditFault) (records : List (Option BuiltPage)) (p : ℕ) (page : BuiltPage)
    → each_built f records ≡ [] → get_or records p None ≡ Some page → f p page ≡ []
built_none f records p page none at =
    subst (λ (kept : Option BuiltPage). of_built f (p, kept) ≡ []) at
    (item_none (of_built f) 0 records p p None (built_inside records p page at) (omega arith) none)

-- the journals are lawful, and their stamps rise
lawful_by : (u : Setup) (records : List (Option BuiltPage)) (p : ℕ) (kept : Option BuiltPage) → each_built (journal_faults u) records ≡ []
    → get_or records p None ≡ kept → IsLawful u p (journal_of kept) × ((n : ℕ) × Rises 0 (journal_of kept) n)
lawful_by u records p None none at = (tt, (0, omega arith))
lawful_by u records p (Some page) none at = (faultless_is_lawful u p page.journal).0 (built_none (journal_faults u) records p page none at)

pub lawful_records : (u : Setup) (records : List (Option BuiltPage)) → each_built (journal_faults u) records ≡ [] → AreLawful u (journals_in records)
lawful_records u records none = λ p. (lawful_by u records p (get_or records p None) none refl).0

pub rising_records : (u : Setup) (records : List (Option BuiltPage)) → each_built (journal_faults u) records ≡ []
    → (p : ℕ) → (n : ℕ) × Rises 0 (journals_in records p) n
rising_records u records none = λ p. (lawful_by u records p (get_or records p None) none refl).1

-- so they are if no single page has a fault
pub lawful_pages : (u : Setup) (builds : List (List ℕ)) (records : List (Option BuiltPage)) → page_faults u builds records ≡ [] → AreLawful u (journals_in records)
lawful_pages u builds records none =
    let behind = append-none (build_faults builds records) (each_built (journal_faults u) records ++ each_built (word_faults u) records) none in
    let entries = append-none (each_built (journal_faults u) records) (each_built (word_faults u) records) behind.1 in
    lawful_records u records entries.0

-- and their words are right
pub right_pages : (u : Setup) (builds : List (List ℕ)) (records : List (Option BuiltPage)) → page_faults u builds records ≡ [] → each_built (word_faults u) records ≡ []
right_pages u builds records none =
    let behind = append-none (build_faults builds records) (each_built (journal_faults u) records ++ each_built (word_faults u) records) none in
    (append-none (each_built (journal_faults u) records) (each_built (word_faults u) records) behind.1).1
