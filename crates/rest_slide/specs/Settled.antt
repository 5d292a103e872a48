-- What a collection leaves: the slid words as the from-space words of a heap again. To-space index i becomes from-space
-- index i, so each to-space address is lowered by 2^32. Immediates stay.
use Rattle.std.specs.Prelude.{◌≡◌, ℕ, ◌-◌, ◌^◌, List, ◌∷◌, ◌++◌, length, map, take, slice_index, cond, Option, Some, None}
use Rattle.std.specs.List.{flat_map, range_with_len}
use Rattle.heap_layout.specs.declared.edition.Edition.{Edition}
use Rattle.heap_layout.specs.Values.{is_immediate}
use Rattle.heap_layout.specs.Heap.{Heap, Object, live}
use Rattle.heap_layout.specs.Kinds.{refers}
use Rattle.heap_layout.specs.declared.kind.Kind.{Kind}
use Rattle.page_plan.specs.Sliding.{forwarded_value, kind, live_words, slid_words}

-- a to-space address as a from-space address; null stays null, since subtraction stops at 0, and an immediate of the
-- edition stays as it is
abbrev pub lowered : Edition → ℕ → ℕ
lowered edition a = cond (is_immediate edition a) a (a - 2 ^ 32)

-- a root, reference or weak word after the collection: an immediate is as it was, and any other word leads to where its
-- object is then, and is null if it was null or its object is not kept
abbrev pub settled_word : Edition → List Object → ℕ → ℕ
settled_word edition objects word = lowered edition (forwarded_value edition objects word)

-- the words of an object after the collection
abbrev pub settled : List Object → Object → List ℕ
settled objects object =
    object.header.word
    ∷ (map (settled_word object.header.edition objects) object.references ++ map (settled_word object.header.edition objects) object.weak
    ++ object.data_words)

-- the words of all live objects, side by side
abbrev pub settled_words : List Object → List ℕ
settled_words objects = flat_map (settled objects) objects

-- where the live objects start then: each behind all live words of the objects before it
abbrev pub places : Heap → List ℕ
places heap = map (λ k. live_words (take k (live heap))) (range_with_len 0 (length heap.marks))

-- the heap after the collection
abbrev pub collected : Heap → Heap
collected heap = record {
  edition = heap.edition;
  words = settled_words (live heap);
  marks = places heap;
  roots = map (settled_word heap.edition (live heap)) heap.roots;
}

-- a slid word of this kind after the collection
abbrev pub settled_as : Edition → Option Kind → ℕ → ℕ
settled_as edition (Some k) word = cond (refers k) (lowered edition word) word
settled_as edition None word = word

-- the words are the slid words, with references and weak words lowered
pub record AreSlid (edition : Edition) (objects : List Object) : Type 0 where
  pub many : length (settled_words objects) ≡ length (slid_words objects)
  pub words : (i : ℕ) → slice_index (settled_words objects) i ≡ settled_as edition (kind objects i) (slice_index (slid_words objects) i)
