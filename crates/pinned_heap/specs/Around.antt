-- A slide around objects that stay: where words lead afterwards, what stands where, and what is free.
use Rattle.std.specs.Prelude.{◌≡◌, ℕ, ◌+◌, ◌-◌, ◌*◌, ◌^◌, ◌<◌, ◌≤◌, ◌==◌, Bool, cond, List, [], ◌∷◌, ◌++◌, length, take, drop, slice_index, All}
use Rattle.std.specs.List.{list_any}
use Rattle.heap_layout.specs.declared.edition.Edition.{Edition}
use Rattle.heap_layout.specs.declared.edition.Edition.TheVariants.{One, Two, Three, Four}
use Rattle.heap_layout.specs.Header.{size_of}
use Rattle.heap_layout.specs.Heap.{Heap, Object, from_address, header_at, is_start, live, object_at}
use Rattle.heap_layout.specs.Values.{is_immediate}
use Rattle.mark_tables.specs.LiveWords.{size}
use Rattle.rest_marks.specs.Places.{led_words}
use Rattle.pinned_heap.specs.Pins.{places_from}
use Rattle.pinned_heap.specs.declared.run.Run.{Run}

-- which objects stay: those at these addresses
abbrev pub stays : List ℕ → ℕ → Bool
stays pins i = list_any (λ pin. pin == from_address i) pins

-- where the object at index i starts afterwards, if it is one of these and the words up to `next` are taken
abbrev pub place_in : (ℕ → Bool) → ℕ → List Object → ℕ → ℕ
place_in staying next [] i = 0
place_in staying next (object ∷ objects) i =
    let start = cond (staying object.index) object.index next in
    cond (object.index == i) start (place_in staying (start + size object) objects i)

-- whether a word is the address of one of these objects
abbrev pub is_address_of : List Object → ℕ → Bool
is_address_of objects word = list_any (λ object. from_address object.index == word) objects

-- where a word leads afterwards: an immediate stays, the address of one of these objects becomes the one that it has
-- then, and any other word becomes null
abbrev pub led_around : Edition → (ℕ → Bool) → List Object → ℕ → ℕ
led_around edition staying objects word =
    cond (is_immediate edition word) word
    (cond (is_address_of objects word) (from_address (place_in staying 0 objects (word - 2 ^ 32))) 0)

-- where the last of these objects ends afterwards; `next` if there are none
abbrev pub end_from : (ℕ → Bool) → ℕ → List Object → ℕ
end_from staying next [] = next
end_from staying next (object ∷ objects) = end_from staying (cond (staying object.index) object.index next + size object) objects

-- the free words below the last of these objects afterwards: a run right before each object that stays, unless it has
-- no words
abbrev pub runs_from : (ℕ → Bool) → ℕ → List Object → List Run
runs_from staying next [] = []
runs_from staying next (object ∷ objects) =
    let start = cond (staying object.index) object.index next in
    let rest = runs_from staying (start + size object) objects in
    cond (next == start) rest (record { start = next; end = start } ∷ rest)

-- the header of an object that has so many words, all of them data but the first, and no tag
abbrev pub filler_word : ℕ → ℕ
filler_word count = 2 ^ 63 + (count - 1)

-- A run that is filled. In editions one and two each of its words is an object, 0; in the others it is one object.
abbrev pub IsFilled : Edition → List ℕ → Run → Type 0
IsFilled One words run = (i : ℕ) → run.start ≤ i → i < run.end → slice_index words i ≡ 0
IsFilled Two words run = (i : ℕ) → run.start ≤ i → i < run.end → slice_index words i ≡ 0
IsFilled Three words run = slice_index words run.start ≡ filler_word (run.end - run.start)
IsFilled Four words run = slice_index words run.start ≡ filler_word (run.end - run.start)

-- the words of the k-th live object afterwards
abbrev pub led_object : (ℕ → Bool) → Heap → ℕ → List ℕ
led_object staying heap k = led_words (led_around heap.edition staying (live heap)) (object_at heap.edition heap.words (slice_index heap.marks k))

-- The live objects of a heap slid within its words, which were `heap.words` and are `after`: each stands at its place,
-- with its references and weak words led; the runs between them are filled; and behind the last one nothing changed.
pub record IsSlidAround (heap : Heap) (staying : ℕ → Bool) (after : List ℕ) : Type 0 where
  pub long : length after ≡ length heap.words
  pub objects : (k : ℕ) → k < length heap.marks
      → take (length (led_object staying heap k)) (drop (slice_index (places_from staying 0 (live heap)) k) after) ≡ led_object staying heap k
  pub filled : All (IsFilled heap.edition after) (runs_from staying 0 (live heap))
  pub behind : drop (end_from staying 0 (live heap)) after ≡ drop (end_from staying 0 (live heap)) heap.words
