-- The image written part by part is the image of the heap.
use Rattle.std.proofs.Common.{◌≡◌, ℕ, List, refl}
use Rattle.heap_layout.specs.Heap.{Heap}
use Rattle.heap_layout.specs.declared.edition.Edition.{Edition}
use Rattle.heap_layout.specs.Encoding.{encoding}

pub image_of : (heap : Heap) (edition : Edition) (words marks roots : List ℕ) → edition ≡ heap.edition → words ≡ heap.words → marks ≡ heap.marks → roots ≡ heap.roots
    → encoding (record { edition = edition; words = words; marks = marks; roots = roots }) ≡ encoding heap
image_of heap edition words marks roots e w m r = rw (e, w, m, r) refl
