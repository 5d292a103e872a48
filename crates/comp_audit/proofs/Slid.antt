-- The marked objects after the slide: the object that has a word, and the objects that are in place.
use Rattle.std.proofs.Common.{◌≡◌, ◌∙◌, ℕ, ◌+◌, ◌<◌, ◌≤◌, Some, length, take, slice_index, sym, ap, subst, inl, inr, arith}
use Rattle.std.proofs.lemmas.Bool.{cases_lt}
use Rattle.std.proofs.lemmas.List.{length-map}
use Rattle.heap_layout.specs.Header.{size_of}
use Rattle.heap_layout.specs.Heap.{Heap, header_at, live, object_at}
use Rattle.page_plan.proofs.Objects.{live_words-next}
use Rattle.page_plan.specs.Planned.{Covers}
use Rattle.page_plan.specs.Sliding.{live_words, new_address}
use Rattle.comp_dump.specs.Dumped.{Dumped}
use Rattle.comp_audit.specs.declared.explanation.SlidObject.{SlidObject}
use Rattle.comp_audit.specs.Explained.{word_in, IsInPlace, IsOwner, IsSlidObject}

pub live-long : (heap : Heap) → length (live heap) ≡ length heap.marks
live-long heap = length-map heap.marks (object_at heap.edition heap.words)

-- the object that begins at or before a word, and ends after it, has the word
pub owner_here : (heap : Heap) (i number begin end : ℕ) (object : SlidObject) → number < length heap.marks
    → begin ≡ live_words (take number (live heap)) → begin ≤ i → end ≡ live_words (take (number + 1) (live heap)) → i < end
    → IsSlidObject heap object → object.number ≡ number → IsOwner heap i (Some object)
owner_here heap i number begin end object known is before ends inside slid same = (
  slid,
  subst (λ (k : ℕ). Covers (live heap) i k) (sym same) (record {
    known = omega (arith, known, live-long heap);
    begun = omega (arith, is, before);
    ends = omega (arith, ends, inside);
  }),
)

-- one more object is in place
pub in_place_next : (heap : Heap) (dump : Dumped) (number : ℕ) (object : SlidObject) → IsSlidObject heap object → object.number ≡ number
    → ((word : ℕ) → word_in dump object.address ≡ Some word → word ≡ object.header)
    → ((k : ℕ) → k < number → IsInPlace heap dump k) → (k : ℕ) → k < number + 1 → IsInPlace heap dump k
in_place_next heap dump number object slid is here before k lt =
    elim (cases_lt k number) [
      | inl below ↦ before k below
      | inr at ↦
          let same : object.number ≡ k = omega (arith, is, lt, at) in
          λ word found.
          here word (ap (word_in dump) (slid.address ∙ ap (new_address (live heap)) same) ∙ found)
          ∙ slid.header
          ∙ ap (slice_index heap.words) (slid.index ∙ ap (slice_index heap.marks) same)
    ]

-- where one more object ends
pub end_is : (heap : Heap) (number begin size : ℕ) → number < length heap.marks → begin ≡ live_words (take number (live heap))
    → size ≡ size_of (header_at heap.edition heap.words (slice_index heap.marks number)) → begin + size ≡ live_words (take (number + 1) (live heap))
end_is heap number begin size known is sized = omega (arith, is, sized, live_words-next heap.edition heap.words heap.marks number known)
