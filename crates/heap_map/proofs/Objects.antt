-- The cells of objects, as they are added.
use Rattle.std.proofs.Common.{◌≡◌, ℕ, ◌+◌, ◌%◌, ◌^◌, ◌<◌, ◌≤◌, List, ◌++◌, decimal, length, get_or, ap, ◌∙◌, subst}
use Rattle.heap_layout.specs.Header.{Head, size_of}
use Rattle.heap_layout.specs.Heap.{Heap, header_at, IsClosed}
use Rattle.heap_layout.specs.declared.kind.Kind.{Kind}
use Rattle.page_plan.proofs.Objects.{live_words-next, live_words-part}
use Rattle.heap_map.specs.Cells.{kind_in, letter_of, live_object, object_cells, to_place, word_cell, Adds}
use Rattle.heap_map.specs.Layout.{cell_at, cell_text}
use Rattle.heap_map.specs.declared.layout.Scale.{Scale}
use Rattle.heap_map.specs.declared.layout.Scale.TheVariants.{Words}

-- a word that is drawn has the cell of its word
pub word_drawn : (top colour start offset index : ℕ) (header : Head) (scale : Scale) (kind : Kind) → scale ≡ Words → kind ≡ kind_in header offset → index ≡ start + offset
    → cell_text top (letter_of kind ++ decimal colour) (cell_at scale index) ≡ word_cell top colour start header offset
word_drawn top colour start offset index header scale kind words same at =
    ap (λ (s : Scale). cell_text top (letter_of kind ++ decimal colour) (cell_at s index)) words
    ∙ ap (λ (k : Kind). cell_text top (letter_of k ++ decimal colour) (cell_at Words index)) same
    ∙ ap (λ (i : ℕ). cell_text top (letter_of (kind_in header offset) ++ decimal colour) (cell_at Words i)) at

-- the k-th live object, by the number of its colour, its start and its header
pub object_drawn : (top : ℕ) (heap : Heap) (k place colour start : ℕ) (header : Head) (a b : List ℕ) → colour ≡ k % 7 → start ≡ place
    → header ≡ header_at heap.edition heap.words (get_or heap.marks k 0) → Adds (object_cells top colour start header) a b → Adds (live_object top heap place k) a b
object_drawn top heap k place colour start header a b turn at head drawn =
    let own = header_at heap.edition heap.words (get_or heap.marks k 0) in
    let first = subst (λ (n : ℕ). Adds (object_cells top n start header) a b) turn drawn in
    let second = subst (λ (i : ℕ). Adds (object_cells top (k % 7) i header) a b) at first in
    subst (λ (h : Head). Adds (object_cells top (k % 7) place h) a b) head second

-- the place of the next object
pub place_next : (heap : Heap) (k : ℕ) → k < length heap.marks → to_place heap (k + 1) ≡ to_place heap k + size_of (header_at heap.edition heap.words (get_or heap.marks k 0))
place_next heap k lt = live_words-next heap.edition heap.words heap.marks k lt

-- a live object has a small place
pub place_few : (heap : Heap) → IsClosed heap → (k : ℕ) → to_place heap k ≤ 2 ^ 31
place_few heap closed k = live_words-part heap closed k
