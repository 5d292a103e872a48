-- Counts over the pages of a dump, page by page, and over its lists of builds.
use Rattle.std.proofs.Common.{◌≡◌, ◌∙◌, ℕ, suc, ◌+◌, ◌<◌, ◌≤◌, List, [], All, drop, get_or, length, map, replicate, set, slice_index, slice_index_or, Option, None, Some, sym, ap, subst, inl, inr, arith}
use Rattle.std.proofs.Math.Seq.{drop-cons}
use Rattle.std.specs.List.{slice_get}
use Rattle.std.proofs.lemmas.Bool.{cases_lt}
use Rattle.std.proofs.lemmas.List.{get_or_default, get_or_past, get_or-replicate, get_or-set_other, get_or-set_same, length-replicate}
use Rattle.std.proofs.lemmas.Option.{get_or_from_slice_get, slice_get_within}
use Rattle.heap_layout.specs.declared.edition.Edition.{Edition}
use Rattle.comp_dump.specs.Entry.{Entry}
use Rattle.comp_dump.specs.Dumped.{BuiltPage, IsStoredRecord}
use Rattle.comp_dump.specs.Builds.{named}
use Rattle.comp_dump.specs.Lists.{only, times}
use Rattle.comp_dump.specs.Merged.{entries_below, stamp_of}
use Rattle.comp_dump.proofs.CompHistoryPages.{total_append}
use Rattle.comp_audit.specs.Checks.{journal_of, journals_in}
use Rattle.comp_audit.proofs.Entries.{page_more, stamps_more}

-- one more page has so many entries more with stamp s
pub uses_next : (records : List (Option BuiltPage)) (s p : ℕ)
    → times s (map stamp_of (entries_below (journals_in records) (p + 1)))
    ≡ times s (map stamp_of (entries_below (journals_in records) p)) + times s (map (λ (e : Entry). e.stamp) (journals_in records p))
uses_next records s p =
    ap (λ (all : List (ℕ × Entry)). times s (map stamp_of all)) (page_more records p)
    ∙ ap (times s) (stamps_more (entries_below (journals_in records) p) p (journals_in records p))
    ∙ total_append (only s) (map stamp_of (entries_below (journals_in records) p)) (map (λ (e : Entry). e.stamp) (journals_in records p))

-- the offset of an entry is on its page
offset_of : (edition : Edition) (mutators : ℕ) (kept : Option BuiltPage) (k : ℕ) (e : Entry) → IsStoredRecord edition mutators kept → slice_get (journal_of kept) k ≡ Some e → e.offset < 64
offset_of edition mutators None k e stored is = absurd (cc)
offset_of edition mutators (Some page) k e stored is =
    let here = stored.entries k e (slice_get_within page.journal k e is) in
    subst (λ (x : Entry). x.offset < 64) (get_or_from_slice_get page.journal k e e is) here.offset

pub offset_inside : (edition : Edition) (mutators : ℕ) (records : List (Option BuiltPage)) (p k : ℕ) (e : Entry) → All (IsStoredRecord edition mutators) records
    → slice_get (journals_in records p) k ≡ Some e → e.offset < 64
offset_inside edition mutators records p k e all is =
    elim (cases_lt p (length records)) [
      | inl lt ↦ offset_of edition mutators (get_or records p None) k e (all p None lt) is
      | inr le ↦
          let none : get_or records p None ≡ None = get_or_past records p None le in
          offset_of edition mutators None k e tt (ap (λ (kept : Option BuiltPage). slice_get (journal_of kept) k) (sym none) ∙ is)
    ]

-- a page has few entries
few_of : (edition : Edition) (mutators : ℕ) (kept : Option BuiltPage) → IsStoredRecord edition mutators kept → length (journal_of kept) ≤ 1024
few_of edition mutators None stored = omega arith
few_of edition mutators (Some page) stored = stored.few_entries

pub few_entries : (edition : Edition) (mutators : ℕ) (records : List (Option BuiltPage)) (p : ℕ) → p < length records → All (IsStoredRecord edition mutators) records
    → length (journals_in records p) ≤ 1024
few_entries edition mutators records p inside all = few_of edition mutators (get_or records p None) (all p None inside)

-- the entries of one more page
pub uses_more : (records : List (Option BuiltPage)) (s p : ℕ) (j : List Entry) (old n : ℕ) → j ≡ journals_in records p
    → old ≡ times s (map stamp_of (entries_below (journals_in records) p)) → n ≡ times s (map (λ (e : Entry). e.stamp) j)
    → old + n ≡ times s (map stamp_of (entries_below (journals_in records) (p + 1)))
uses_more records s p j old n same before here =
    let there : n ≡ times s (map (λ (e : Entry). e.stamp) (journals_in records p)) = here ∙ ap (λ (l : List Entry). times s (map (λ (e : Entry). e.stamp) l)) same in
    omega (arith, before, there, uses_next records s p)

-- one more list names the page so often
pub named_more : (p : ℕ) (lists : List (List ℕ)) (i : ℕ) (d list : List ℕ) (old n all : ℕ) → i < length lists → list ≡ get_or lists i d → n ≡ times p list
    → old + named p (drop i lists) ≡ all → old + n + named p (drop (i + 1) lists) ≡ all
named_more p lists i d list old n all inside is one before =
    let next : i + 1 ≡ suc i = omega arith in
    let parts : named p (drop i lists) ≡ times p list + named p (drop (i + 1) lists) =
    ap (named p) (drop-cons lists i d inside)
    ∙ ap (λ (l : List ℕ). times p l + named p (drop (suc i) lists)) (sym is)
    ∙ ap (λ (k : ℕ). times p list + named p (drop k lists)) (sym next) in
    omega (arith, parts, one, before)

-- no list is told
pub no_namings : (n k : ℕ) → slice_index (replicate n 0) k ≡ 0
no_namings n k =
    elim (cases_lt k n) [
      | inl lt ↦ get_or-replicate n k 0 0 lt
      | inr le ↦ get_or_past (replicate n 0) k 0 (omega (arith, le, length-replicate {A = ℕ} n 0))
    ]

-- how often one more list names it
pub namings_more : (p i n : ℕ) (lists : List (List ℕ)) (by : List ℕ) (d list : List ℕ) → i < length lists → i < length by → list ≡ get_or lists i d → n ≡ times p list
    → ((k : ℕ) → k < i → slice_index by k ≡ times p (slice_index_or lists k [])) → (k : ℕ) → k < i + 1 → slice_index (set by i n) k ≡ times p (slice_index_or lists k [])
namings_more p i n lists by d list inside fits is one before k below =
    elim (cases_lt k i) [
      | inl lt ↦ get_or-set_other by i k n 0 (omega (arith, lt)) ∙ before k lt
      | inr le ↦
          let same : i ≡ k = omega (arith, below, le) in
          let here : slice_index (set by i n) i ≡ times p (slice_index_or lists i []) =
          get_or-set_same by i n 0 fits ∙ one ∙ ap (times p) (is ∙ get_or_default lists i d [] inside) in
          subst (λ (m : ℕ). slice_index (set by i n) m ≡ times p (slice_index_or lists m [])) same here
    ]

-- past it none is told
pub namings_past : (i n : ℕ) (by : List ℕ) → ((k : ℕ) → i ≤ k → slice_index by k ≡ 0) → (k : ℕ) → i + 1 ≤ k → slice_index (set by i n) k ≡ 0
namings_past i n by before k above = get_or-set_other by i k n 0 (omega (arith, above)) ∙ before k (omega (arith, above))
