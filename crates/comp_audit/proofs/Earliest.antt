-- Of the entries that fail a test, the one with the least stamp has the first fault.
use Rattle.std.proofs.Common.{◌≡◌, ◌≢◌, ℕ, ◌+◌, ◌<◌, ◌≤◌, Bool, true, false, eqb, not, ◌||◌, List, [], ◌∷◌, ◌++◌, length, take, get_or, Option, Some, None, refl, sym, ap, subst, ◌∙◌, inl, inr, arith, append-nil, append_assoc}
use Rattle.std.specs.List.{flat_map, enumerate_from}
use Rattle.std.proofs.Math.Path.{fun_ext}
use Rattle.std.proofs.lemmas.Bool.{cases_lt, ne_eqb}
use Rattle.std.proofs.lemmas.List.{take_all, get_or_default}
use Rattle.comp_journal.specs.declared.entry.Entry.{Entry}
use Rattle.comp_history.proofs.Sorted.{In}
use Rattle.comp_dump.specs.Dumped.{BuiltPage}
use Rattle.comp_dump.specs.declared.fault.AuditFault.{AuditFault}
use Rattle.comp_dump.specs.declared.fault.AuditFault.TheVariants.{BadEntry}
use Rattle.comp_audit.specs.declared.checks.late.Late.{Late}
use Rattle.comp_audit.specs.Checks.{unless, above, all_stamps, journal_of, journals_in, of_built, late_on, late_with, late_faults}
use Rattle.comp_audit.specs.Reported.{IsFirst}
use Rattle.comp_audit.specs.Noted.{IsEarliest}
use Rattle.comp_audit.proofs.Reporting.{faults_more}
use Rattle.comp_audit.proofs.Ranges.{first_in_range, none_in_range}
use Rattle.comp_audit.proofs.Built.{none_built, built_inside}
use Rattle.comp_audit.proofs.Entries.{stamp_below}

-- the fault of an entry, at its own stamp
abbrev pub at_stamp : Late → ℕ → List AuditFault
at_stamp late s = unless (not (eqb late.stamp s)) (BadEntry late.page late.number)

pub both_none : (one others : List AuditFault) → one ≡ [] → others ≡ [] → one ++ others ≡ []
both_none one others p q = rw (p, q) refl

-- functions with the same faults have the same earliest entry
pub same_earliest : (one other : ℕ → List AuditFault) (found : Option Late) → ((s : ℕ) → one s ≡ other s) → IsEarliest one found → IsEarliest other found
same_earliest one other found same is = subst (λ (f : ℕ → List AuditFault). IsEarliest f found) (fun_ext same) is

or_true : (b : Bool) (fault : AuditFault) → unless (b || true) fault ≡ []
or_true true fault = refl
or_true false fault = refl

or_false : (b : Bool) (fault : AuditFault) → unless (b || false) fault ≡ unless b fault
or_false true fault = refl
or_false false fault = refl

abbrev one_late : (Entry → Bool) → ℕ → ℕ × Entry → ℕ → List AuditFault
one_late test p entry s = unless (not (eqb entry.1.stamp s) || test entry.1) (BadEntry p entry.0)

abbrev pub front_late : (Entry → Bool) → ℕ → List Entry → ℕ → ℕ → List AuditFault
front_late test p j i s = flat_map (λ entry. unless (not (eqb entry.1.stamp s) || test entry.1) (BadEntry p entry.0)) (enumerate_from 0 (take i j))

-- one more entry of a page
module _ (test : Entry → Bool) (faults : ℕ → List AuditFault) (p : ℕ) (j : List Entry) (i : ℕ) (e : Entry) (inside : i < length j) (is : e ≡ get_or j i e) where
  more : (s : ℕ) → (faults s ++ front_late test p j i s) ++ one_late test p (i, e) s ≡ faults s ++ front_late test p j (i + 1) s
  more s = append_assoc (faults s) (front_late test p j i s) (one_late test p (i, e) s)
      ∙ ap (λ (l : List AuditFault). faults s ++ l) (sym (faults_more (λ entry. one_late test p entry s) i j e inside is))

  -- that passes the test
  pub passes_late : (found : Option Late) → test e ≡ true → IsEarliest (λ s. faults s ++ front_late test p j i s) found
      → IsEarliest (λ s. faults s ++ front_late test p j (i + 1) s) found
  passes_late found pass is_found =
      same_earliest (λ s. faults s ++ front_late test p j i s) (λ s. faults s ++ front_late test p j (i + 1) s) found (λ s.
      sym (append-nil (faults s ++ front_late test p j i s))
      ∙ ap (λ (l : List AuditFault). (faults s ++ front_late test p j i s) ++ l)
      (sym (ap (λ (b : Bool). unless (not (eqb e.stamp s) || b) (BadEntry p i)) pass ∙ or_true (not (eqb e.stamp s)) (BadEntry p i)))
      ∙ more s) is_found

  -- that fails it
  pub fails_late : (found : Option Late) (late : Late) → test e ≡ false → late ≡ record { stamp = e.stamp; page = p; number = i }
      → IsEarliest (λ s. (faults s ++ front_late test p j i s) ++ at_stamp late s) found → IsEarliest (λ s. faults s ++ front_late test p j (i + 1) s) found
  fails_late found late fail same is_found =
      same_earliest (λ s. (faults s ++ front_late test p j i s) ++ at_stamp late s) (λ s. faults s ++ front_late test p j (i + 1) s) found (λ s.
      ap (λ (l : Late). (faults s ++ front_late test p j i s) ++ at_stamp l s) same
      ∙ ap (λ (l : List AuditFault). (faults s ++ front_late test p j i s) ++ l)
      (sym (ap (λ (b : Bool). unless (not (eqb e.stamp s) || b) (BadEntry p i)) fail ∙ or_false (not (eqb e.stamp s)) (BadEntry p i)))
      ∙ more s) is_found

-- no entry has a stamp that is above all
none_on : (test : Entry → Bool) (s p n : ℕ) (j : List Entry) → ((e : Entry) → In e j → e.stamp ≢ s)
    → flat_map (λ entry. unless (not (eqb entry.1.stamp s) || test entry.1) (BadEntry p entry.0)) (enumerate_from n j) ≡ []
none_on test s p n [] other = refl
none_on test s p n (e ∷ es) other =
    both_none (unless (not (eqb e.stamp s) || test e) (BadEntry p n)) _
    (ap (λ (b : Bool). unless (not b || test e) (BadEntry p n)) (ne_eqb e.stamp s (other e (inl refl))))
    (none_on test s p (n + 1) es (λ x i. other x (inr i)))

none_above : (test : Entry → Bool) (records : List (Option BuiltPage)) (s : ℕ) → above (all_stamps records) ≤ s → late_with test records s ≡ []
none_above test records s le =
    none_built (λ p page. late_on test s p page.journal) records (λ p page at.
    none_on test s p 0 page.journal (λ e i same.
    let below = stamp_below records p page e (built_inside records p page at) at i in
    omega (arith, below, le, same)))

-- so the earliest is the first fault
pub earliest_first : (test : Entry → Bool) (records : List (Option BuiltPage)) (late : Late) → IsEarliest (late_with test records) (Some late)
    → IsFirst (late_faults test records) (BadEntry late.page late.number)
earliest_first test records late is =
    elim (cases_lt late.stamp (above (all_stamps records))) [
      | inl lt ↦ first_in_range (late_with test records) 0 (above (all_stamps records)) late.stamp (BadEntry late.page late.number) (omega arith) (omega (arith, lt))
          (λ s ge less. is.before s less) is.here
      | inr le ↦ absurd (subst (λ (l : List AuditFault). IsFirst l (BadEntry late.page late.number)) (none_above test records late.stamp le) is.here)
    ]

pub none_late : (test : Entry → Bool) (records : List (Option BuiltPage)) → IsEarliest (late_with test records) None → late_faults test records ≡ []
none_late test records none = none_in_range (late_with test records) 0 (above (all_stamps records)) (λ s ge lt. none s)

-- of the pages up to page p
abbrev pub pages_late : (Entry → Bool) → List (Option BuiltPage) → ℕ → ℕ → List AuditFault
pages_late test records p s = flat_map (of_built (λ q page. late_on test s q page.journal)) (enumerate_from 0 (take p records))

-- one more page
module _ (test : Entry → Bool) (records : List (Option BuiltPage)) (p : ℕ) (inside : p < length records) where
  abbrev kept : Option BuiltPage
  kept = get_or records p None

  page_more : (s : ℕ) → pages_late test records (p + 1) s ≡ pages_late test records p s ++ of_built (λ q page. late_on test s q page.journal) (p, kept)
  page_more s = faults_more (of_built (λ q page. late_on test s q page.journal)) p records kept inside (get_or_default records p None kept inside)

  late_at : (s : ℕ) (k : Option BuiltPage) → of_built (λ q page. late_on test s q page.journal) (p, k) ≡ late_on test s p (journal_of k)
  late_at s None = refl
  late_at s (Some page) = refl

  pub late_next : (found next : Option Late) (j : List Entry) → j ≡ journals_in records p → IsEarliest (pages_late test records p) found
      → ((faults : ℕ → List AuditFault) → IsEarliest faults found → IsEarliest (λ s. faults s ++ late_on test s p j) next) → IsEarliest (pages_late test records (p + 1)) next
  late_next found next j same before more =
      same_earliest (λ s. pages_late test records p s ++ late_on test s p j) (pages_late test records (p + 1)) next (λ s.
      ap (λ (l : List Entry). pages_late test records p s ++ late_on test s p l) same
      ∙ ap (λ (l : List AuditFault). pages_late test records p s ++ l) (sym (late_at s kept))
      ∙ sym (page_more s)) (more (pages_late test records p) before)

-- all pages
pub late_pages : (test : Entry → Bool) (records : List (Option BuiltPage)) (p : ℕ) (found : Option Late) → length records ≤ p → IsEarliest (pages_late test records p) found
    → IsEarliest (late_with test records) found
late_pages test records p found le = same_earliest (pages_late test records p) (late_with test records) found (λ s.
    ap (λ (l : List (Option BuiltPage)). flat_map (of_built (λ q page. late_on test s q page.journal)) (enumerate_from 0 l)) (take_all p records le))

-- no entry of a page yet, and all of them
pub late_begun : (test : Entry → Bool) (faults : ℕ → List AuditFault) (p : ℕ) (j : List Entry) (found : Option Late) → IsEarliest faults found
    → IsEarliest (λ s. faults s ++ front_late test p j 0 s) found
late_begun test faults p j found = same_earliest faults (λ s. faults s ++ front_late test p j 0 s) found (λ s. sym (append-nil (faults s)))

pub late_done : (test : Entry → Bool) (faults : ℕ → List AuditFault) (p : ℕ) (j : List Entry) (i : ℕ) (found : Option Late) → length j ≤ i
    → IsEarliest (λ s. faults s ++ front_late test p j i s) found → IsEarliest (λ s. faults s ++ late_on test s p j) found
late_done test faults p j i found le = same_earliest (λ s. faults s ++ front_late test p j i s) (λ s. faults s ++ late_on test s p j) found (λ s.
    ap (λ (l : List Entry). faults s ++ flat_map (λ entry. one_late test p entry s) (enumerate_from 0 l)) (take_all i j le))
