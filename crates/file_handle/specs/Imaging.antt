-- Images of heaps, in bytes of C.
use Rattle.std.specs.Prelude.{◌≡◌, ℕ, ◌⊎◌, true, List, Option, None, Some}
use Rattle.heap_layout.specs.Encoding.{encoding, RefusesBy}
use Rattle.heap_layout.specs.Faults.{IsAccepted}
use Rattle.heap_layout.specs.Heap.{Heap}
use Rattle.heap_layout.specs.declared.fault.LayoutFault.{LayoutFault}
use Rattle.handle_base.specs.Answers.{done, of_layout}
use Rattle.handle_base.specs.Copying.{WritesBytes}
use Rattle.handle_base.specs.HandleKinds.{Fills}
use Rattle.handle_base.specs.declared.answer.Answer.{Answer}
use Rattle.handle_base.specs.declared.kept.Kept.{Kept}
use Rattle.handle_base.specs.declared.kept.Kept.TheVariants as kept

-- the bytes are the image of a heap, of any edition, which the handle keeps then; or the handle stays empty, and the
-- answer says why no image is read
abbrev pub ReadsHeap : List ℕ → Option Kept → Answer → Type 0
ReadsHeap bytes now a =
    ((heap : Heap) × (bytes ≡ encoding heap) × IsAccepted heap × (now ≡ Some (kept.Heap heap)) × (a ≡ done 0))
    ⊎ ((now ≡ None) × ((fault : LayoutFault) × (a ≡ of_layout fault) × RefusesBy true fault bytes))

-- the same for a handle that is to be filled
abbrev pub ReadsImage : List ℕ → Option Kept → Option Kept → Answer → Type 0
ReadsImage bytes old new a = Fills 0 (λ now b. ReadsHeap bytes now b) (Unit {0}) old new a

-- the image of a heap stands at the front of the buffer; or the buffer stays as it was, and the answer says why
abbrev pub WritesImage : List ℕ → List ℕ → Heap → Answer → Type 0
WritesImage before after heap a = WritesBytes (encoding heap) before after a
