-- The parts of an image.
use Rattle.heap_layout.specs.Heap.{Heap}
use Rattle.heap_layout.specs.declared.image.ImageParts.{ImageParts}

-- the heap that these parts make, accepted or not
abbrev pub heap_in : ImageParts → Heap
heap_in parts = record { edition = parts.edition; words = parts.words.items; marks = parts.marks.items; roots = parts.roots.items }
