-- Lemmas on the first fault of a heap: it is the fault of a part of the heap, unless the heap is too large.
use Rattle.std.proofs.Common.{◌≡◌, ℕ, ◌+◌, Bool, true, false, leb, List, [], ◌∷◌, ◌++◌, length, All, Result, Ok, Err, IfErr, inl, inr, refl, sym, subst}
use Rattle.std.specs.List.{flat_map, enumerate_from}
use Rattle.std.proofs.lemmas.Bool.{le-leb}
use Rattle.std.proofs.lemmas.List.Elements.{All-nil, All-cons, All-append, All-head}
use Rattle.std.specs.Result.{IsErrAnd}
use Rattle.heap_layout.specs.Counted.{CountsFailure}
use Rattle.heap_layout.specs.Encoding.{AreWithin}
use Rattle.heap_layout.specs.declared.edition.Edition.{Edition}
use Rattle.heap_layout.specs.declared.kind.Kind.{Kind}
use Rattle.heap_layout.specs.declared.kind.Kind.TheVariants.{Header, Reference, Weak, Data}
use Rattle.heap_layout.specs.Limits.{most_words, most_roots, most_object_words}
use Rattle.heap_layout.specs.Header.{size_of}
use Rattle.heap_layout.specs.Kinds.{first_of}
use Rattle.heap_layout.specs.Heap.{Heap, starts, is_start, is_value, header_at, object_at, fields_of}
use Rattle.heap_layout.specs.Faults.{unless, size_faults, object_faults, mark_faults, root_faults, misled, reference_faults_by, field_faults_by, target_faults, weak_faults, part_faults, faults, IsFirst, IsAnswered, Answers}
use Rattle.heap_layout.specs.declared.fault.LayoutFault.{LayoutFault}
use Rattle.heap_layout.specs.declared.fault.LayoutFault.TheVariants.{TooLarge, ObjectPastEnd, ObjectTooLong, MarkNotStart, MarksNotRising, BadRoot, UnmarkedTarget, BadWeak, OutOfMemory, Device}

-- the fault is one of an object, a mark, a root, a reference or a weak word
abbrev pub IsOfPart : LayoutFault → Type 0
IsOfPart (ObjectPastEnd i) = Unit {0}
IsOfPart (ObjectTooLong i) = Unit {0}
IsOfPart (MarkNotStart i) = Unit {0}
IsOfPart (MarksNotRising i) = Unit {0}
IsOfPart (BadRoot k) = Unit {0}
IsOfPart (UnmarkedTarget i) = Unit {0}
IsOfPart (BadWeak i) = Unit {0}
IsOfPart _ = ⊥

-- a test that fails with the fault of a part has only that fault
unless_of_part : (holds : Bool) (fault : LayoutFault) → IsOfPart fault → All IsOfPart (unless holds fault)
unless_of_part true fault part = All-nil IsOfPart
unless_of_part false fault part = All-cons IsOfPart fault [] part (All-nil IsOfPart)

-- if each item has only faults of parts, so has the whole list
each_of_part : {X : Type 0} (f : X → List LayoutFault) → ((x : X) → All IsOfPart (f x)) → (xs : List X) → All IsOfPart (flat_map f xs)
each_of_part f part [] = All-nil IsOfPart
each_of_part f part (x ∷ xs) = All-append IsOfPart (f x) (flat_map f xs) (part x) (each_of_part f part xs)

-- the same for two tests
both_of_part : (one_holds other_holds : Bool) (one other : LayoutFault) → IsOfPart one → IsOfPart other
    → All IsOfPart (unless one_holds one ++ unless other_holds other)
both_of_part one_holds other_holds one other of_one of_other =
    All-append IsOfPart (unless one_holds one) (unless other_holds other) (unless_of_part one_holds one of_one) (unless_of_part other_holds other of_other)

-- the faults of objects, of marks, of roots and of references are faults of parts
objects_of_part : (edition : Edition) (words : List ℕ) (i : ℕ) → All IsOfPart (object_faults edition words i)
objects_of_part edition words i =
    let size = size_of (header_at edition words i) in
    both_of_part (leb size (most_object_words edition)) (leb (i + size) (length words)) (ObjectTooLong i) (ObjectPastEnd i) tt tt

marks_of_part : (row : List ℕ) (low : ℕ) (marks : List ℕ) → All IsOfPart (mark_faults row low marks)
marks_of_part row low [] = All-nil IsOfPart
marks_of_part row low (mark ∷ marks) =
    All-append IsOfPart (unless (leb low mark) (MarksNotRising mark) ++ unless (is_start row mark) (MarkNotStart mark)) (mark_faults row (mark + 1) marks)
    (both_of_part (leb low mark) (is_start row mark) (MarksNotRising mark) (MarkNotStart mark) tt tt)
    (marks_of_part row (mark + 1) marks)

roots_of_part : (edition : Edition) (marks roots : List ℕ) → All IsOfPart (root_faults edition marks roots)
roots_of_part edition marks roots = each_of_part _ (λ root. unless_of_part _ (BadRoot root.0) tt) (enumerate_from 0 roots)

misled_of_part : (kind : Kind) (i : ℕ) → IsOfPart (misled kind i)
misled_of_part Header i = tt
misled_of_part Reference i = tt
misled_of_part Weak i = tt
misled_of_part Data i = tt

references_of_part : (kind : Kind) (test : ℕ → Bool) (first : ℕ) (references : List ℕ) → All IsOfPart (reference_faults_by kind test first references)
references_of_part kind test first references =
    each_of_part _ (λ reference. unless_of_part _ (misled kind reference.0) (misled_of_part kind reference.0)) (enumerate_from first references)

fields_of_part : (kind : Kind) (edition : Edition) (test : ℕ → Bool) (words marks : List ℕ) → All IsOfPart (field_faults_by kind edition test words marks)
fields_of_part kind edition test words marks =
    each_of_part _
    (λ mark. references_of_part kind test (mark + first_of kind (header_at edition words mark)) (fields_of kind (object_at edition words mark))) marks

-- counts within their limits have no fault
pub no_size_fault : (edition : Edition) (words marks roots : ℕ) → AreWithin edition words marks roots → size_faults edition words marks roots ≡ []
no_size_fault edition words marks roots within =
    let w : leb words (most_words edition) ≡ true = le-leb words (most_words edition) within.few_words in
    let m : leb marks (most_words edition) ≡ true = le-leb marks (most_words edition) within.few_marks in
    let r : leb roots (most_roots edition) ≡ true = le-leb roots (most_roots edition) within.few_roots in
    rw (w, m, r) refl

-- what holds for all faults of a list holds for its first
first_all : (P : LayoutFault → Type 0) (list : List LayoutFault) (fault : LayoutFault) → All P list → IsFirst list fault → P fault
first_all P [] fault all first = absurd first
first_all P (one ∷ others) fault all first = subst P (sym first) (All-head P one others all)

-- what holds for all faults of five lists holds for those of the joined list
all_five : (P : LayoutFault → Type 0) (a b c d e : List LayoutFault) → All P a → All P b → All P c → All P d → All P e → All P (a ++ b ++ c ++ d ++ e)
all_five P a b c d e of_a of_b of_c of_d of_e =
    All-append P (a ++ b ++ c ++ d) e (All-append P (a ++ b ++ c) d (All-append P (a ++ b) c (All-append P a b of_a of_b) of_c) of_d) of_e

-- the faults of the parts of a heap are faults of parts
parts_of_part : (heap : Heap) → All IsOfPart (part_faults heap)
parts_of_part heap =
    let row = flat_map (object_faults heap.edition heap.words) (starts heap.edition heap.words) in
    let marks = mark_faults (starts heap.edition heap.words) 0 heap.marks in
    let roots = root_faults heap.edition heap.marks heap.roots in
    let targets = target_faults heap.edition heap.words heap.marks heap.marks in
    let weak = weak_faults heap.edition heap.words heap.marks in
    all_five IsOfPart row marks roots targets weak
    (each_of_part (object_faults heap.edition heap.words) (objects_of_part heap.edition heap.words) (starts heap.edition heap.words))
    (marks_of_part (starts heap.edition heap.words) 0 heap.marks)
    (roots_of_part heap.edition heap.marks heap.roots)
    (fields_of_part Reference heap.edition (is_value heap.edition heap.marks) heap.words heap.marks)
    (fields_of_part Weak heap.edition (is_value heap.edition (starts heap.edition heap.words)) heap.words heap.marks)

-- a fault that comes first in a heap within the limits comes first in its parts
first_in_parts : (heap : Heap) (fault : LayoutFault) → size_faults heap.edition (length heap.words) (length heap.marks) (length heap.roots) ≡ []
    → IsFirst (faults heap) fault → IsFirst (part_faults heap) fault
first_in_parts heap fault none first = subst (λ (sizes : List LayoutFault). IsFirst (sizes ++ part_faults heap) fault) none first

-- a refusal of memory is an answer of the checks after that of the sizes
pub memory_reported : {T : Type 0} (heap : Heap) (r : Result T LayoutFault) → size_faults heap.edition (length heap.words) (length heap.marks) (length heap.roots) ≡ []
    → IsErrAnd r (λ fault. fault ≡ OutOfMemory) → Answers (faults heap) r
memory_reported heap (Ok x) none is = absurd is
memory_reported heap (Err fault) none is = inr (is, λ first. first_all IsOfPart (part_faults heap) TooLarge (parts_of_part heap) (first_in_parts heap TooLarge none first))

-- the first fault of a heap within the limits is the fault of a part
pub first_of_part : (heap : Heap) (fault : LayoutFault) → AreWithin heap.edition (length heap.words) (length heap.marks) (length heap.roots)
    → IsFirst (faults heap) fault → IsOfPart fault
first_of_part heap fault within first =
    let none = no_size_fault heap.edition (length heap.words) (length heap.marks) (length heap.roots) within in
    first_all IsOfPart (part_faults heap) fault (parts_of_part heap) (first_in_parts heap fault none first)

-- the fault is no failure of the device
abbrev pub IsNoDevice : LayoutFault → Type 0
IsNoDevice Device = ⊥
IsNoDevice _ = Unit {0}

part_no_device : (fault : LayoutFault) → IsOfPart fault → IsNoDevice fault
part_no_device Device part = absurd part
part_no_device _ part = tt

-- the answer for a heap within the limits is no failure of the device
pub no_device : (heap : Heap) (fault : LayoutFault) → AreWithin heap.edition (length heap.words) (length heap.marks) (length heap.roots)
    → IsAnswered (faults heap) fault → IsNoDevice fault
no_device heap fault within (inl first) = part_no_device fault (first_of_part heap fault within first)
no_device heap fault within (inr memory) = subst IsNoDevice (sym memory.0) tt

pub counts_kept : (T : Type 0) (before after : ℕ) (result : Result T LayoutFault) → IfErr result IsNoDevice → after ≡ before → CountsFailure before after result
counts_kept T before after (Ok _) part same = same
counts_kept T before after (Err Device) part same = absurd part
counts_kept T before after (Err _) part same = same
