-- Why a young collection is refused. A fault that is answered is there; there may be others too.
use Rattle.std.specs.Prelude.{◌≡◌, ◌≢◌, ℕ, ◌+◌, ◌<◌, ◌⊎◌, true, false, List, length, slice_index}
use Rattle.heap_layout.specs.declared.edition.Edition.{Edition}
use Rattle.heap_layout.specs.Header.{refs_of, weak_of, size_of}
use Rattle.heap_layout.specs.Heap.{header_at}
use Rattle.heap_layout.specs.Limits.{most_object_words}
use Rattle.reachability.specs.Queue.{has}
use Rattle.rest_marks.specs.Reached.{IsStray, IsWordOf}
use Rattle.rest_marks.specs.declared.fault.SurveyFault.{SurveyFault}
use Rattle.rest_marks.specs.declared.fault.SurveyFault.TheVariants.{TooLarge, BadRoot, BadReference, BadWeak, ObjectTooLong, ObjectPastEnd, Overlap, OutOfMemory}
use Rattle.young_heap.specs.Young.{is_led, seeds, IsReachedAbove}

-- a root, a field or a reference is astray: it is neither an immediate nor null, and leads neither to a word above nor
-- to the start of an old object
abbrev pub IsAstray : Edition → List ℕ → List ℕ → ℕ → ℕ → Type 0
IsAstray edition words starts old word = is_led edition starts old (length words) word ≡ false

-- the object at index i is reached above
abbrev pub IsMet : Edition → List ℕ → List ℕ → ℕ → List ℕ → ℕ → Type 0
IsMet edition words roots old fields i = IsReachedAbove edition old words (seeds words roots fields) i

-- the fault is one of these words, roots, fields, which are followed, and weak words of old objects, which are not
abbrev pub IsYoungFaultOf : Edition → List ℕ → List ℕ → List ℕ → ℕ → List ℕ → List ℕ → SurveyFault → Type 0
IsYoungFaultOf edition words roots starts old fields weaks TooLarge = ⊥
IsYoungFaultOf edition words roots starts old fields weaks (BadRoot k) =
    (k < length roots) × IsAstray edition words starts old (slice_index roots k)
IsYoungFaultOf edition words roots starts old fields weaks (BadReference j) =
    ((has fields j ≡ true) ⊎ ((i : ℕ) × IsMet edition words roots old fields i
    × (f : ℕ) × (f < refs_of (header_at edition words i)) × (j ≡ i + 1 + f)))
    × IsAstray edition words starts old (slice_index words j)
IsYoungFaultOf edition words roots starts old fields weaks (BadWeak j) =
    ((has weaks j ≡ true) ⊎ ((i : ℕ) × IsMet edition words roots old fields i
    × (f : ℕ) × (f < weak_of (header_at edition words i)) × (j ≡ i + 1 + refs_of (header_at edition words i) + f)))
    × IsStray edition words (slice_index words j)
IsYoungFaultOf edition words roots starts old fields weaks (ObjectTooLong i) =
    IsMet edition words roots old fields i × (most_object_words edition < size_of (header_at edition words i))
IsYoungFaultOf edition words roots starts old fields weaks (ObjectPastEnd i) =
    IsMet edition words roots old fields i × (length words < i + size_of (header_at edition words i))
IsYoungFaultOf edition words roots starts old fields weaks (Overlap i) =
    IsMet edition words roots old fields i × (j : ℕ) × IsMet edition words roots old fields j × (j ≢ i)
    × (k : ℕ) × IsWordOf edition words i k × IsWordOf edition words j k
IsYoungFaultOf edition words roots starts old fields weaks OutOfMemory = Unit {0}
