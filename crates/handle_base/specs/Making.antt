-- How heaps are made of what C hands in.
use Rattle.std.specs.Prelude.{◌≡◌, ◌≢◌, ℕ, ◌⊎◌, List, [], length, Option, None, Some}
use Rattle.heap_layout.specs.Faults.{faults, size_faults, IsAccepted, IsFirst}
use Rattle.heap_layout.specs.Heap.{Heap}
use Rattle.heap_layout.specs.Versions.{version_of}
use Rattle.heap_layout.specs.declared.edition.Edition.{Edition}
use Rattle.heap_layout.specs.declared.fault.LayoutFault.{LayoutFault}
use Rattle.heap_layout.specs.declared.fault.LayoutFault.TheVariants as layout
use Rattle.reachability.specs.Reachable.{AreReachable}
use Rattle.handle_base.specs.Answers.{bare, done, of_layout}
use Rattle.handle_base.specs.Statuses.{bad_edition}
use Rattle.handle_base.specs.HandleKinds.{Fills}
use Rattle.handle_base.specs.declared.answer.Answer.{Answer}
use Rattle.handle_base.specs.declared.kept.Kept.{Kept}
use Rattle.handle_base.specs.declared.kept.Kept.TheVariants as kept

-- the heap that was given
abbrev pub given : Edition → List ℕ → List ℕ → List ℕ → Heap
given edition words marks roots = record { edition = edition; words = words; marks = marks; roots = roots }

-- these numbers of words, marks and roots are within the limits of the edition
abbrev pub AreFew : Edition → List ℕ → List ℕ → List ℕ → Type 0
AreFew edition words marks roots = size_faults edition (length words) (length marks) (length roots) ≡ []

-- why a heap is refused: its first fault; or out of memory, and then it is not too large
abbrev pub IsWhy : Heap → LayoutFault → Type 0
IsWhy heap fault = ((fault ≡ layout.OutOfMemory) × AreFew heap.edition heap.words heap.marks heap.roots) ⊎ IsFirst (faults heap) fault

-- the handle, which was empty, keeps this heap, which is accepted; or it stays empty, and the answer says why
abbrev pub Accepts : Heap → Option Kept → Answer → Type 0
Accepts heap now a =
    ((now ≡ Some (kept.Heap heap)) × (a ≡ done 0) × IsAccepted heap)
    ⊎ ((now ≡ None) × ((fault : LayoutFault) × (a ≡ of_layout fault) × IsWhy heap fault))

-- what is done for the edition of number n; or there is no such edition, and the handle stays empty
abbrev pub ByEdition : ℕ → (Edition → Type 0) → Option Kept → Answer → Type 0
ByEdition n Done now a =
    ((edition : Edition) × (version_of edition ≡ n) × Done edition)
    ⊎ (((edition : Edition) → version_of edition ≢ n) × (now ≡ None) × (a ≡ bare bad_edition n))

-- a heap of edition n is made, or there is no such edition
abbrev pub MakesHeap : ℕ → List ℕ → List ℕ → List ℕ → Option Kept → Option Kept → Answer → Type 0
MakesHeap n words marks roots old new a =
    Fills 0 (λ now b. ByEdition n (λ edition. Accepts (given edition words marks roots) now b) now b) (Unit {0}) old new a

-- why a heap is refused whose marks are those of what its roots reach; out of memory only if there are not too many
-- words and roots
abbrev pub IsWhyReached : Edition → List ℕ → List ℕ → LayoutFault → Type 0
IsWhyReached edition words roots fault =
    ((fault ≡ layout.OutOfMemory) × AreFew edition words [] roots)
    ⊎ ((marks : List ℕ) → AreReachable edition words roots marks → IsFirst (faults (given edition words marks roots)) fault)

-- The handle keeps the heap of these words and roots in which exactly the objects are marked that the roots reach; it
-- is accepted. Or the handle stays empty, and the answer is why a heap with these marks is refused.
abbrev pub AcceptsReached : Edition → List ℕ → List ℕ → Option Kept → Answer → Type 0
AcceptsReached edition words roots now a =
    ((marks : List ℕ) × AreReachable edition words roots marks × (now ≡ Some (kept.Heap (given edition words marks roots))) × (a ≡ done 0) × IsAccepted (given edition words marks roots))
    ⊎ ((now ≡ None) × ((fault : LayoutFault) × (a ≡ of_layout fault) × IsWhyReached edition words roots fault))

-- a heap of edition n is made and marked by what its roots reach, or there is no such edition
abbrev pub MarksHeap : ℕ → List ℕ → List ℕ → Option Kept → Option Kept → Answer → Type 0
MarksHeap n words roots old new a =
    Fills 0 (λ now b. ByEdition n (λ edition. AcceptsReached edition words roots now b) now b) (Unit {0}) old new a
