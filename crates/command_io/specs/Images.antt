-- What is known of the image at a path: of its heap, and of its parts, whether their heap is accepted or not.
use Rattle.std.specs.Prelude.{◌≡◌, ℕ, Bool, List, Option, IfSome, length}
use Rattle.heap_layout.specs.Heap.{Heap, IsStored}
use Rattle.heap_layout.specs.Faults.{IsAccepted}
use Rattle.heap_layout.specs.Encoding.{encoding, AreWithin, RefusesBy, RefusesParts}
use Rattle.heap_layout.specs.Versions.{IsRead}
use Rattle.command_io.specs.Disk.{Disk, SomeFile}
use Rattle.command_io.specs.declared.refusal.Input.TheVariants.{Image}
use Rattle.command_io.specs.declared.refusal.CommandRefusal.{CommandRefusal}
use Rattle.command_io.specs.declared.refusal.CommandRefusal.TheVariants.{Layout}

-- the bytes of the image, if they are known, are the heap's encoding; and images of its edition are read: those of
-- editions three and four only if `large`
abbrev pub IsReadAs : Bool → Option (List ℕ) → Heap → Type 0
IsReadAs large known heap = IfSome known (λ bytes. bytes ≡ encoding heap) × IsRead large heap.edition

-- P holds of some accepted heap, as which the image is read
abbrev pub IsImageOf : Bool → (Heap → Type 0) → Option (List ℕ) → Type 0
IsImageOf large P known = (heap : Heap) × IsStored heap × IsAccepted heap × IsReadAs large known heap × P heap

-- this heap is that of some image that can be read at the path
abbrev pub IsHeapAt : {F W : Type 0} → Disk F W → Bool → List ℕ → Heap → Type 0
IsHeapAt disk large path heap = SomeFile disk Image path (IsImageOf large (λ other. other ≡ heap))

-- P holds of the heap of some image that can be read at the path
abbrev pub SomeHeapAt : {F W : Type 0} → Disk F W → Bool → List ℕ → (Heap → Type 0) → Type 0
SomeHeapAt disk large path P = (heap : Heap) × IsHeapAt disk large path heap × P heap

-- the image is refused, for a fault of its bytes, if they are known
abbrev pub RefusesImage : Bool → CommandRefusal → Option (List ℕ) → Type 0
RefusesImage large (Layout fault) known = IfSome known (RefusesBy large fault)
RefusesImage large _ known = ⊥

-- P holds of some parts, as which the image is read: its numbers fit their fields, and its counts are within the limits
-- of its edition
abbrev pub ArePartsOf : Bool → (Heap → Type 0) → Option (List ℕ) → Type 0
ArePartsOf large P known =
    (parts : Heap) × IsStored parts × AreWithin parts.edition (length parts.words) (length parts.marks) (length parts.roots) × IsReadAs large known parts × P parts

-- these parts are those of some image that can be read at the path
abbrev pub ArePartsAt : {F W : Type 0} → Disk F W → Bool → List ℕ → Heap → Type 0
ArePartsAt disk large path parts = SomeFile disk Image path (ArePartsOf large (λ other. other ≡ parts))

-- P holds of the parts of some image that can be read at the path
abbrev pub SomePartsAt : {F W : Type 0} → Disk F W → Bool → List ℕ → (Heap → Type 0) → Type 0
SomePartsAt disk large path P = (parts : Heap) × ArePartsAt disk large path parts × P parts

-- the parts of the image are refused, for a fault of its bytes, if they are known
abbrev pub RefusesImageParts : Bool → CommandRefusal → Option (List ℕ) → Type 0
RefusesImageParts large (Layout fault) known = IfSome known (RefusesParts large fault)
RefusesImageParts large _ known = ⊥
