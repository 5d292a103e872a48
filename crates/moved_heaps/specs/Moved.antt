-- A heap after its marked objects moved, each to a place of its own, and when it is lawful. The k-th marked object is
-- the k-th of the old heap's live objects.
use Rattle.std.specs.Prelude.{◌≡◌, ◌≢◌, ℕ, ◌+◌, ◌<◌, ◌≤◌, ◌⊎◌, List, ◌∷◌, ◌++◌, length, map, cond, slice_index, unwrap_or}
use Rattle.std.specs.Option.{option_map}
use Rattle.heap_layout.specs.Header.{size_of}
use Rattle.heap_layout.specs.Values.{is_immediate}
use Rattle.heap_layout.specs.Heap.{Heap, Object, header_at, object_at, live}
use Rattle.heap_layout.specs.declared.edition.Edition.{Edition}
use Rattle.page_plan.specs.Sliding.{number_of, to_address}

-- The places are the to-space indices of the marked objects, in the order of the marks. The roots are to-space
-- addresses, or 0 for null. The words are those of to-space, from index 0 on.
pub record Moved : Type 0 where
  pub edition : Edition
  pub places : List ℕ
  pub roots : List ℕ
  pub words : List ℕ

-- the k-th marked object
abbrev pub marked : Heap → ℕ → Object
marked heap k = object_at heap.edition heap.words (slice_index heap.marks k)

-- how many words it has
abbrev pub size_at : Heap → ℕ → ℕ
size_at heap k = size_of (header_at heap.edition heap.words (slice_index heap.marks k))

-- its new place
abbrev pub place : Moved → ℕ → ℕ
place moved k = slice_index moved.places k

-- the index behind its last word there
abbrev pub end : Heap → Moved → ℕ → ℕ
end heap moved k = place moved k + size_at heap k

-- Where a word leads after the move: the address of a marked object becomes that of the object's new place, and every
-- other word null. In an accepted heap every other word is null before, or a weak word whose target is not marked.
abbrev pub led : List Object → List ℕ → ℕ → ℕ
led objects places word = unwrap_or (option_map (λ k. to_address (slice_index places k)) (number_of objects word)) 0

-- The same for a root, a reference or a weak word of a heap of this edition: an immediate stays as it is.
abbrev pub led_value : Edition → List Object → List ℕ → ℕ → ℕ
led_value edition objects places word = cond (is_immediate edition word) word (led objects places word)

-- the words of an object after the move: its header and data words stay, its references and weak words lead to the new
-- places, immediates stay
abbrev pub words_after : List Object → List ℕ → Object → List ℕ
words_after objects places object =
    object.header.word
    ∷ (map (led_value object.header.edition objects places) object.references ++ map (led_value object.header.edition objects places) object.weak
    ++ object.data_words)

-- the edition is the heap's, there is a place for each marked object, and a root for each root
pub record HasHead (heap : Heap) (moved : Moved) : Type 0 where
  pub edition : moved.edition ≡ heap.edition
  pub places : length moved.places ≡ length heap.marks
  pub roots : length moved.roots ≡ length heap.roots

-- the k-th marked object lies inside the words
abbrev pub IsInside : Heap → Moved → ℕ → Type 0
IsInside heap moved k = end heap moved k ≤ length moved.words

-- two marked objects do not overlap
abbrev pub AreApart : Heap → Moved → ℕ → ℕ → Type 0
AreApart heap moved k l = (end heap moved k ≤ place moved l) ⊎ (end heap moved l ≤ place moved k)

-- root i is the new address of its object, or null if it was null, or the immediate that it was
abbrev pub IsRoot : Heap → Moved → ℕ → Type 0
IsRoot heap moved i = slice_index moved.roots i ≡ led_value heap.edition (live heap) moved.places (slice_index heap.roots i)

-- the word at this offset of the k-th marked object is right
abbrev pub IsWord : Heap → Moved → ℕ → ℕ → Type 0
IsWord heap moved k offset = slice_index moved.words (place moved k + offset) ≡ slice_index (words_after (live heap) moved.places (marked heap k)) offset

-- the k-th marked object stands whole at its new place
abbrev pub IsWhole : Heap → Moved → ℕ → Type 0
IsWhole heap moved k = (offset : ℕ) → offset < size_at heap k → IsWord heap moved k offset

-- The heap may have moved so. What lies in no object is free.
pub record IsLawful (heap : Heap) (moved : Moved) : Type 0 where
  pub head : HasHead heap moved
  pub inside : (k : ℕ) → k < length heap.marks → IsInside heap moved k
  pub apart : (k l : ℕ) → k < length heap.marks → l < length heap.marks → k ≢ l → AreApart heap moved k l
  pub roots : (i : ℕ) → i < length heap.roots → IsRoot heap moved i
  pub whole : (k : ℕ) → k < length heap.marks → IsWhole heap moved k
