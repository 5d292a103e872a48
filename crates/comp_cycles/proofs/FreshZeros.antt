-- At each entry that makes an object, the words after its header are 0.
use Rattle.std.proofs.Common.{◌≡◌, ℕ, ◌+◌, ◌<◌, List, [], ◌∷◌, ◌++◌, get_or, refl, sym, ap, ◌∙◌, subst, arith, append_assoc}
use Rattle.std.proofs.lemmas.List.{get_or-replicate}
use Rattle.heap_layout.specs.Header.{header_of, size_of}
use Rattle.comp_journal.specs.declared.entry.Entry.{Entry}
use Rattle.comp_history.specs.Setup.{Setup, pages, address, base_of}
use Rattle.comp_history.specs.Lists.{on}
use Rattle.comp_history.specs.Lawful.{FitsEntry, IsLawful}
use Rattle.comp_history.specs.Locks.{Journals}
use Rattle.comp_history.proofs.Heads.{is_fresh, next_of, none_behind}
use Rattle.comp_history.proofs.Fields.{fresh_base}
use Rattle.comp_history.specs.Merged.{CanMerge}
use Rattle.comp_history.specs.OneThread.{OneThreadHeap, first_heap, after, address_of}
use Rattle.comp_history.proofs.Pages.{on_here, on_parts}
use Rattle.comp_history.proofs.Merging as merging
use Rattle.comp_history.proofs.Words.{fits_behind, lawful_front}
use Rattle.comp_history.proofs.Heaps.{first_holds, holds_more, Holds}
use Rattle.comp_cycles.proofs.Lives.{AreZeros, InZeros}

zeros_here : (u : Setup) (done : List (ℕ × Entry)) (x : ℕ × Entry) (heap : OneThreadHeap) → IsLawful u x.0 (on x.0 done) → Holds u done heap → FitsEntry u x.0 (on x.0 done) x.1
    → AreZeros heap x.1.kind (address_of x) x.1.value
zeros_here u done x heap lawful h fits head i low lt =
    let p = x.0 in
    let o = x.1.offset + i in
    let next = next_of u p (on p done) x.1.kind x.1.writer x.1.offset x.1.value head fits in
    let fresh = is_fresh u x.1.writer p next.page in
    let page = next.page in
    let inside : p < pages u = omega (arith, page.1, page.2) in
    let few = ap (λ e. size_of (header_of e x.1.value)) h.edition in
    let low_enough : o < 64 = omega (arith, next.ends, few, lt) in
    let at : address_of x + i ≡ address p o = omega arith in
    ap heap.word at ∙ h.word p o inside low_enough ∙ none_behind u p o (on p done) [] (base_of u p) fresh lawful (omega (arith, next.offset_is))
    ∙ ap (λ l. get_or l o 0) (fresh_base u p fresh) ∙ get_or-replicate 64 o 0 0 low_enough

module _ (u : Setup) (journals : Journals) (can : CanMerge u journals) where
  abbrev all : List (ℕ × Entry)
  all = merging.all u journals can

  lawful_before : (done rest : List (ℕ × Entry)) (p : ℕ) → all ≡ done ++ rest → IsLawful u p (on p done)
  lawful_before done rest p e =
      lawful_front u p (on p done) (on p rest) [] (subst (IsLawful u p) (sym (merging.pages_all u journals can p) ∙ ap (on p) e ∙ on_parts p done rest) (can.lawful p))

  fits_here : (done rest : List (ℕ × Entry)) (x : ℕ × Entry) → all ≡ done ++ x ∷ rest → FitsEntry u x.0 (on x.0 done) x.1
  fits_here done rest x e =
      fits_behind u x.0 (on x.0 done) (on x.0 rest) [] x.1
      (subst (IsLawful u x.0) (sym (merging.pages_all u journals can x.0) ∙ ap (on x.0) e ∙ on_parts x.0 done (x ∷ rest) ∙ ap (λ l. on x.0 done ++ l) (on_here x.0 x rest refl)) (can.lawful x.0))

  zeros_from : (done todo : List (ℕ × Entry)) (heap : OneThreadHeap) → all ≡ done ++ todo → Holds u done heap → InZeros heap todo
  zeros_from done [] heap e h = tt
  zeros_from done (x ∷ todo) heap e h =
      let fits = fits_here done todo x e in (
        zeros_here u done x heap (lawful_before done (x ∷ todo) x.0 e) h fits,
        zeros_from (done ++ x ∷ []) todo (after heap x) (e ∙ sym (append_assoc done (x ∷ []) todo)) (holds_more u done heap x fits h),
      )

  pub all_zeros : InZeros (first_heap u) all
  all_zeros = zeros_from [] all (first_heap u) refl (first_holds u)
