-- The heap as sliding leaves it.
use Rattle.std.specs.Prelude.{length, map, take}
use Rattle.std.specs.List.{range_with_len}
use Rattle.heap_layout.specs.Heap.{Heap, live}
use Rattle.page_plan.specs.Sliding.{forwarded_value, live_words, slid_words}
use Rattle.moved_heaps.specs.Moved.{Moved}

-- each live object has its place behind all live words of the objects before it; the roots are forwarded
abbrev pub slid : Heap → Moved
slid heap = record {
  edition = heap.edition;
  places = map (λ k. live_words (take k (live heap))) (range_with_len 0 (length heap.marks));
  roots = map (forwarded_value heap.edition (live heap)) heap.roots;
  words = slid_words (live heap);
}
