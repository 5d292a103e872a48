-- The heap that a collection around pinned objects leaves.
use Rattle.std.specs.Prelude.{ℕ, List}
use Rattle.heap_layout.specs.Heap.{Heap, live}
use Rattle.pinned_heap.specs.Around.{stays}
use Rattle.pinned_heap.specs.Pins.{places_from}

-- It has these words and roots then, and its live objects stand at their places. The runs between are no objects of it.
abbrev pub left_around : Heap → List ℕ → List ℕ → List ℕ → Heap
left_around heap pins roots after = record {
  edition = heap.edition;
  words = after;
  marks = places_from (stays pins) 0 (live heap);
  roots = roots;
}
