-- All entries of a dump, page by page: what one more page and one more entry add.
use Rattle.std.proofs.Common.{◌≡◌, ℕ, suc, ◌+◌, ◌<◌, ◌≤◌, ⊎_elim, List, [], ◌∷◌, ◌++◌, length, map, take, get_or, Option, Some, None, refl, sym, ap, subst, ◌∙◌, arith}
use Rattle.std.proofs.lemmas.List.{map-append, take_more}
use Rattle.heap_layout.specs.declared.edition.Edition.{Edition}
use Rattle.comp_journal.specs.declared.entry.Entry.{Entry}
use Rattle.comp_history.specs.Lists.{total}
use Rattle.comp_history.specs.Merged.{entries_below, stamp_of, with_page}
use Rattle.comp_history.specs.MadeWords.{allocated, words_by}
use Rattle.comp_history.proofs.Sorted.{In}
use Rattle.comp_history.proofs.Pages.{below_in, total_append}
use Rattle.comp_dump.specs.Dumped.{BuiltPage, HasFewEntries}
use Rattle.comp_audit.specs.Checks.{above, all_entries, all_stamps, journal_of, journals_in}

-- a page has few entries
pub few_at : (kept : Option BuiltPage) → HasFewEntries kept → length (journal_of kept) ≤ 1024
few_at None h = omega arith
few_at (Some page) h = h

-- one more page
pub page_more : (records : List (Option BuiltPage)) (p : ℕ) → entries_below (journals_in records) (p + 1) ≡ entries_below (journals_in records) p ++ with_page p (journals_in records p)
page_more records p = let next : p + 1 ≡ suc p = omega arith in ap (entries_below (journals_in records)) next

-- one more entry of a page
pub entry_more : (p : ℕ) (j : List Entry) (i : ℕ) (e : Entry) → i < length j → e ≡ get_or j i e → with_page p (take (i + 1) j) ≡ with_page p (take i j) ++ (p, e) ∷ []
entry_more p j i e inside is =
    ap (with_page p) (take_more j i e inside ∙ ap (λ (x : Entry). take i j ++ x ∷ []) (sym is))
    ∙ map-append (λ (x : Entry). (p, x)) (take i j) (e ∷ [])

-- the stamps of a page
stamps_with : (p : ℕ) (j : List Entry) → map stamp_of (with_page p j) ≡ map (λ (e : Entry). e.stamp) j
stamps_with p [] = refl
stamps_with p (e ∷ es) = ap (λ (rest : List ℕ). e.stamp ∷ rest) (stamps_with p es)

pub stamps_more : (all : List (ℕ × Entry)) (p : ℕ) (j : List Entry) → map stamp_of (all ++ with_page p j) ≡ map stamp_of all ++ map (λ (e : Entry). e.stamp) j
stamps_more all p j = map-append stamp_of all (with_page p j) ∙ ap (λ (rest : List ℕ). map stamp_of all ++ rest) (stamps_with p j)

-- the stamps and the words of one more page
pub stamps_next : (records : List (Option BuiltPage)) (p : ℕ) (j : List Entry) (old new : List ℕ) → j ≡ journals_in records p
    → old ≡ map stamp_of (entries_below (journals_in records) p) → new ≡ old ++ map (λ (e : Entry). e.stamp) j → new ≡ map stamp_of (entries_below (journals_in records) (p + 1))
stamps_next records p j old new same before more =
    more
    ∙ ap (λ (l : List ℕ). l ++ map (λ (e : Entry). e.stamp) j) before
    ∙ sym (stamps_more (entries_below (journals_in records) p) p j)
    ∙ ap (λ (l : List Entry). map stamp_of (entries_below (journals_in records) p ++ with_page p l)) same
    ∙ ap (map stamp_of) (sym (page_more records p))

-- the words of the objects that a page's entries make
words_with : (edition : Edition) (p : ℕ) (j : List Entry) → allocated edition (with_page p j) ≡ total (λ (e : Entry). words_by edition e.kind e.value) j
words_with edition p [] = refl
words_with edition p (e ∷ es) = let rest = words_with edition p es in omega (arith, rest)

pub words_more : (edition : Edition) (all : List (ℕ × Entry)) (p : ℕ) (j : List Entry) → allocated edition (all ++ with_page p j) ≡ allocated edition all + total (λ (e : Entry). words_by edition e.kind e.value) j
words_more edition all p j =
    let parts = total_append (λ (x : ℕ × Entry). words_by edition x.1.kind x.1.value) all (with_page p j) in
    let here = words_with edition p j in
    omega (arith, parts, here)

pub words_next : (edition : Edition) (records : List (Option BuiltPage)) (p : ℕ) (j : List Entry) (old new : ℕ) → j ≡ journals_in records p
    → old ≡ allocated edition (entries_below (journals_in records) p) → new ≡ old + total (λ (e : Entry). words_by edition e.kind e.value) j
    → new ≡ allocated edition (entries_below (journals_in records) (p + 1))
words_next edition records p j old new same before more =
    more
    ∙ ap (λ (n : ℕ). n + total (λ (e : Entry). words_by edition e.kind e.value) j) before
    ∙ sym (words_more edition (entries_below (journals_in records) p) p j)
    ∙ ap (λ (l : List Entry). allocated edition (entries_below (journals_in records) p ++ with_page p l)) same
    ∙ ap (allocated edition) (sym (page_more records p))

-- the stamp of an entry of a list is below `above` of the list's stamps
in_below_all : (all : List (ℕ × Entry)) (x : ℕ × Entry) → In x all → stamp_of x < above (map stamp_of all)
in_below_all [] x i = absurd i
in_below_all (y ∷ ys) x i = ⊎_elim
    (λ (same : y ≡ x). let e = ap stamp_of same in omega (arith, e))
    (λ t. let rest = in_below_all ys x t in omega (arith, rest))
    i

pub stamp_below : (records : List (Option BuiltPage)) (p : ℕ) (page : BuiltPage) (e : Entry) → p < length records → get_or records p None ≡ Some page
    → In e page.journal → e.stamp < above (all_stamps records)
stamp_below records p page e inside at i =
    let here : In e (journals_in records p) = subst (λ (r : Option BuiltPage). In e (journal_of r)) (sym at) i in
    in_below_all (all_entries records) (p, e) (below_in (journals_in records) (length records) p e inside here)
