-- Why a heap is refused. All faults of a heap stand in one list, in the order in which they count. The heap is accepted
-- if the list is empty. Otherwise the first fault of the list is the answer.
use Rattle.std.specs.Prelude.{◌≡◌, ℕ, ◌+◌, ◌≤◌, ◌⊎◌, Bool, ◌==◌, nat_le, List, [], ◌∷◌, ◌++◌, length, take, drop, if◌then◌else◌, Result, Ok, Err}
use Rattle.std.specs.List.{flat_map, enumerate_from, list_any}
use Rattle.heap_layout.specs.Limits.{most_words, most_roots, most_object_words}
use Rattle.heap_layout.specs.Header.{size_of}
use Rattle.heap_layout.specs.Bits.{bit}
use Rattle.heap_layout.specs.Kinds.{first_of}
use Rattle.heap_layout.specs.Heap.{Heap, header_at, object_at, fields_of, starts, starts_at, is_start, is_value}
use Rattle.heap_layout.specs.declared.edition.Edition.{Edition}
use Rattle.heap_layout.specs.declared.kind.Kind.{Kind}
use Rattle.heap_layout.specs.declared.kind.Kind.TheVariants.{Reference, Weak}
use Rattle.heap_layout.specs.declared.fault.LayoutFault.{LayoutFault}
use Rattle.heap_layout.specs.declared.fault.LayoutFault.TheVariants.{TooLarge, ObjectPastEnd, ObjectTooLong, MarkNotStart, MarksNotRising, BadRoot, UnmarkedTarget, BadWeak, OutOfMemory}

-- the fault, if the test fails
abbrev pub unless : {F : Type 0} → Bool → F → List F
unless holds fault = if holds then [] else fault ∷ []

-- the numbers of words, marks or roots that are above the limits of the edition
abbrev pub size_faults : Edition → ℕ → ℕ → ℕ → List LayoutFault
size_faults edition words marks roots =
    unless (nat_le words (most_words edition)) TooLarge ++ unless (nat_le marks (most_words edition)) TooLarge ++ unless (nat_le roots (most_roots edition)) TooLarge

-- the object at index i is too long, or ends past the words
abbrev pub object_faults : Edition → List ℕ → ℕ → List LayoutFault
object_faults edition words i =
    let size = size_of (header_at edition words i) in
    unless (nat_le size (most_object_words edition)) (ObjectTooLong i) ++ unless (nat_le (i + size) (length words)) (ObjectPastEnd i)

-- a walk object by object comes to index i: the objects from there on have no fault, and they are those of the whole
-- row from there on
pub record IsReached (edition : Edition) (words : List ℕ) (i : ℕ) : Type 0 where
  pub within : i ≤ length words
  pub sound : flat_map (object_faults edition words) (starts_at edition words i) ≡ []
  pub same : (k : ℕ) → i ≤ k → is_start (starts edition words) k ≡ is_start (starts_at edition words i) k

-- the faults of marks of which the next must be at least `low`: each mark must rise, and an object of the row must
-- start there
abbrev pub mark_faults : List ℕ → ℕ → List ℕ → List LayoutFault
mark_faults row low [] = []
mark_faults row low (mark ∷ marks) =
    (unless (nat_le low mark) (MarksNotRising mark) ++ unless (is_start row mark) (MarkNotStart mark)) ++ mark_faults row (mark + 1) marks

-- the first `met` marks were each met at the start of an object: the other marks have the same faults as all, and the
-- bits are set at the marks that were met
pub record Meets (row marks : List ℕ) (met : ℕ) (bits : List ℕ) : Type 0 where
  pub low : ℕ
  pub faults : mark_faults row low (drop met marks) ≡ mark_faults row 0 marks
  pub same : (j : ℕ) → bit bits j ≡ list_any (λ mark. mark == j) (take met marks)

-- a fault for each root that fails the test, with the number of the root
abbrev pub root_faults_by : (ℕ → Bool) → List ℕ → List LayoutFault
root_faults_by test roots = flat_map (λ root. unless (test root.1) (BadRoot root.0)) (enumerate_from 0 roots)

-- the fault of a word of this kind, at index i, that leads nowhere
abbrev pub misled : Kind → ℕ → LayoutFault
misled Weak i = BadWeak i
misled _ i = UnmarkedTarget i

-- a fault for each of these words of one kind that fails the test, with the index of the word; the first word has index
-- `first`
abbrev pub reference_faults_by : Kind → (ℕ → Bool) → ℕ → List ℕ → List LayoutFault
reference_faults_by kind test first references = flat_map (λ reference. unless (test reference.1) (misled kind reference.0)) (enumerate_from first references)

-- a fault for each field of this kind of each marked object that fails the test
abbrev pub field_faults_by : Kind → Edition → (ℕ → Bool) → List ℕ → List ℕ → List LayoutFault
field_faults_by kind edition test words marks =
    flat_map (λ mark. reference_faults_by kind test (mark + first_of kind (header_at edition words mark)) (fields_of kind (object_at edition words mark))) marks

-- a fault for each root that is neither null nor the address of a marked object, nor an immediate of the edition
abbrev pub root_faults : Edition → List ℕ → List ℕ → List LayoutFault
root_faults edition marks roots = root_faults_by (is_value edition marks) roots

-- a fault for each reference of these marked objects that is neither null nor the address of a marked object, nor an
-- immediate of the edition
abbrev pub target_faults : Edition → List ℕ → List ℕ → List ℕ → List LayoutFault
target_faults edition words all_marks marks = field_faults_by Reference edition (is_value edition all_marks) words marks

-- a fault for each weak word of a marked object that is neither null nor the address of an object, nor an immediate of
-- the edition
abbrev pub weak_faults : Edition → List ℕ → List ℕ → List LayoutFault
weak_faults edition words marks = field_faults_by Weak edition (is_value edition (starts edition words)) words marks

-- the faults of the objects, the marks, the roots, the references and the weak words
abbrev pub part_faults : Heap → List LayoutFault
part_faults heap =
    flat_map (object_faults heap.edition heap.words) (starts heap.edition heap.words)
    ++ mark_faults (starts heap.edition heap.words) 0 heap.marks
    ++ root_faults heap.edition heap.marks heap.roots
    ++ target_faults heap.edition heap.words heap.marks heap.marks
    ++ weak_faults heap.edition heap.words heap.marks

abbrev pub faults : Heap → List LayoutFault
faults heap = size_faults heap.edition (length heap.words) (length heap.marks) (length heap.roots) ++ part_faults heap

abbrev pub IsAccepted : Heap → Type 0
IsAccepted heap = faults heap ≡ []

-- the list begins with this fault
abbrev pub IsFirst : {F : Type 0} → List F → F → Type 0
IsFirst [] fault = ⊥
IsFirst (first ∷ others) fault = fault ≡ first

-- an allocation was refused: the checks make one, and only after that of the sizes
abbrev pub IsRefusedMemory : List LayoutFault → LayoutFault → Type 0
IsRefusedMemory list fault = (fault ≡ OutOfMemory) × (IsFirst list TooLarge → ⊥)

-- the fault that is answered for a heap with this list of faults
abbrev pub IsAnswered : List LayoutFault → LayoutFault → Type 0
IsAnswered list fault = IsFirst list fault ⊎ IsRefusedMemory list fault

-- the answer for this list of faults: Ok if it is empty, otherwise its first fault
abbrev pub Reports : {F T : Type 0} → List F → Result T F → Type 0
Reports list (Ok _) = list ≡ []
Reports list (Err fault) = IsFirst list fault

-- the same of a heap, if the answer may be that memory was refused
abbrev pub Answers : {T : Type 0} → List LayoutFault → Result T LayoutFault → Type 0
Answers list (Ok _) = list ≡ []
Answers list (Err fault) = IsAnswered list fault
