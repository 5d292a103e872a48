-- The collected heap is the same heap in object numbers.
use Rattle.std.proofs.Common.{◌≡◌, ℕ, ◌+◌, ◌<◌, false, List, length, get_or, inl, inr, refl, sym, ap, ◌∙◌, arith}
use Rattle.std.proofs.lemmas.Bool.{cases_eq, false_from_ne_true}
use Rattle.heap_layout.specs.Header.{size_of}
use Rattle.heap_layout.specs.Heap.{Heap, Object, from_address, header_at, live, is_target}
use Rattle.heap_layout.specs.Values.{is_immediate}
use Rattle.heap_layout.proofs.Marked.{closed}
use Rattle.page_plan.proofs.NewAddresses.{forward-none}
use Rattle.comp_cycles.specs.NumberedHeaps.{IsNumberedAs}
use Rattle.comp_cycles.specs.Stable.{StableHeap}
use Rattle.comp_cycles.proofs.Targets.{target_cases}
use Rattle.rest_marks.specs.Reached.{IsSound}
use Rattle.rest_slide.specs.Settled.{settled_word, settled_words, places, collected}
use Rattle.stopped_heap.proofs.Collected.{many, place-at, header-there, placed-there, address-there, collected-accepted}
use Rattle.stopped_heap.proofs.Rows.{closed-sound}
use Rattle.rest_slide.proofs.Settling.{settled-at, settled-immediate, settled-null, settled-lost}
use Rattle.stopped_cycles.proofs.Moved.{numbered-moved, IsMoved, LeadsTo}
use Rattle.stopped_cycles.proofs.Numbers.{IsNoMark}

module _ (heap : Heap) (is : IsSound heap) where
  abbrev objects : List Object
  objects = live heap

  abbrev words : List ℕ
  words = settled_words objects

  abbrev settle : ℕ → ℕ
  settle = settled_word heap.edition objects

  -- a word that is the address of no object
  settled-none : (word : ℕ) → is_immediate heap.edition word ≡ false → IsNoMark heap.marks word → settle word ≡ 0
  settled-none word plain none = elim (cases_eq word 0) [
    | inl null ↦ ap settle null ∙ settled-null heap.edition objects
    | inr other ↦
        let fails : is_target heap.marks word ≡ false =
        false_from_ne_true (is_target heap.marks word) (λ target. elim (target_cases heap.marks word target) [
          | inl null ↦ other null
          | inr at ↦ none at.0 at.1 at.2
        ]) in
        settled-lost heap.edition objects word plain (forward-none heap.edition heap.words heap.marks word fails)
  ]

  settled-leads : LeadsTo heap (places heap) settle
  settled-leads = record {
    immediate = settled-immediate heap.edition objects;
    there = λ k lt. address-there heap is k lt ∙ ap from_address (sym (place-at heap is k lt));
    lost = settled-none;
  }

  -- the collected heap is the heap with its objects moved
  collected-moved : IsMoved heap settle words (places heap) (collected heap).roots
  collected-moved =
      let new : IsSound (collected heap) = closed-sound (collected heap) (closed (collected heap) (collected-accepted heap is)) in
      record {
        few = new.few_words;
        many = many heap is;
        within = λ k lt. (let placed = placed-there heap is k lt in omega (arith, placed.within, place-at heap is k lt, ap size_of (header-there heap is k lt)));
        apart = λ k lt.
            let low : k < length heap.marks = omega (arith, lt) in
            let next = new.apart k (omega (arith, lt, many heap is)) in
            let head = ap (λ (n : ℕ). header_at heap.edition words n) (place-at heap is k low) ∙ header-there heap is k low in
            omega (arith, next, ap size_of head);
        objects = λ k f lt inside. ap (λ (n : ℕ). get_or words (n + f) 0) (place-at heap is k lt) ∙ settled-at heap is k f lt inside;
        leads = settled-leads;
        roots = refl;
      }

-- a stable heap that stands for a sound heap stands for what a collection leaves of it
pub numbered-collected : (heap : Heap) (numbers : List ℕ) (stable : StableHeap) → IsSound heap → IsNumberedAs heap numbers stable → IsNumberedAs (collected heap) numbers stable
numbered-collected heap numbers stable is numbered =
    numbered-moved heap (settled_word heap.edition (live heap)) (settled_words (live heap)) (places heap) (collected heap).roots is (collected-moved heap is) numbers stable numbered
