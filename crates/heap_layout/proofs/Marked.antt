-- Marks, roots and references of a heap without faults.
use Rattle.std.proofs.Common.{◌≡◌, ℕ, zero, suc, ◌+◌, ◌-◌, ◌<◌, ◌≤◌, Bool, true, List, [], ◌∷◌, ◌++◌, All, length, get_or, slice_range, take, drop, sym, refl, ap, subst, ◌∙◌, arith}
use Rattle.std.specs.List.{flat_map, enumerate_from}
use Rattle.std.specs.List.Sorted.{IsStrictlyIncreasing}
use Rattle.std.proofs.lemmas.List.Elements.{All-nil, All-cons}
use Rattle.std.proofs.lemmas.List.{at_drop_more}
use Rattle.std.proofs.lemmas.Bool.{leb-true}
use Rattle.heap_layout.specs.declared.edition.Edition.{Edition}
use Rattle.heap_layout.specs.declared.edition.Edition.TheVariants.{One}
use Rattle.heap_layout.specs.declared.kind.Kind.{Kind}
use Rattle.heap_layout.specs.declared.kind.Kind.TheVariants.{Header, Reference, Weak, Data}
use Rattle.heap_layout.specs.Limits.{most_words, most_roots}
use Rattle.heap_layout.specs.Header.{Head, weak_of, data_of}
use Rattle.heap_layout.specs.Kinds.{count_of, first_of}
use Rattle.heap_layout.specs.Heap.{Heap, header_at, object_at, fields_of, objects, words_of, starts, is_start, is_value, IsPlaced, IsClosed}
use Rattle.heap_layout.specs.Faults.{unless, size_faults, object_faults, mark_faults, root_faults, target_faults, weak_faults, part_faults, misled, reference_faults_by, field_faults_by, IsAccepted, IsFirst}
use Rattle.heap_layout.specs.declared.fault.LayoutFault.{LayoutFault}
use Rattle.heap_layout.specs.declared.fault.LayoutFault.TheVariants.{BadRoot}
use Rattle.heap_layout.proofs.Rows.{append-none, unless-none, placed-start, reached-first, starts-apart, words-from}

-- if a mark has no fault, it is not too low, an object starts there, and the marks after it have no fault
mark-parts : (row : List ℕ) (low mark : ℕ) (marks : List ℕ) → mark_faults row low (mark ∷ marks) ≡ []
    → (low ≤ mark) × (is_start row mark ≡ true) × (mark_faults row (mark + 1) marks ≡ [])
mark-parts row low mark marks none =
    let parts = append-none (unless _ _ ++ unless _ _) (mark_faults row (mark + 1) marks) none in
    let tests = append-none (unless _ _) (unless _ _) parts.0 in
    (leb-true low mark (unless-none _ _ tests.0), unless-none _ _ tests.1, parts.1)

-- an object starts at each mark
pub marks-started : (row : List ℕ) (low : ℕ) (marks : List ℕ) → mark_faults row low marks ≡ [] → All (λ mark. is_start row mark ≡ true) marks
marks-started row low [] none = All-nil (λ mark. is_start row mark ≡ true)
marks-started row low (mark ∷ marks) none =
    let parts = mark-parts row low mark marks none in
    All-cons (λ k. is_start row k ≡ true) mark marks parts.1 (marks-started row (mark + 1) marks parts.2)

-- the marks rise
pub marks-rising : (row : List ℕ) (low : ℕ) (marks : List ℕ) → mark_faults row low marks ≡ [] → IsStrictlyIncreasing marks
marks-rising row low [] none k within = absurd (omega arith)
marks-rising row low (mark ∷ []) none k within = absurd (omega arith)
marks-rising row low (mark ∷ (next ∷ marks)) none zero within =
    let parts = mark-parts row low mark (next ∷ marks) none in
    let order = (mark-parts row (mark + 1) next marks parts.2).0 in
    omega arith
marks-rising row low (mark ∷ (next ∷ marks)) none (suc k) within =
    let parts = mark-parts row low mark (next ∷ marks) none in
    let index : suc k + 1 ≡ suc (k + 1) = omega arith in
    rw index (marks-rising row (mark + 1) (next ∷ marks) parts.2 k (omega arith))

-- a fault for each numbered word that fails the test
abbrev pub numbered_faults : (ℕ → LayoutFault) → (ℕ → Bool) → ℕ → List ℕ → List LayoutFault
numbered_faults fault test first references = flat_map (λ reference. unless (test reference.1) (fault reference.0)) (enumerate_from first references)

-- words without a fault pass the test
pub numbered-targets : (fault : ℕ → LayoutFault) (test : ℕ → Bool) (first : ℕ) (references : List ℕ) → numbered_faults fault test first references ≡ []
    → All (λ word. test word ≡ true) references
numbered-targets fault test first [] none = All-nil (λ word. test word ≡ true)
numbered-targets fault test first (reference ∷ references) none =
    let parts = append-none (unless (test reference) (fault first)) (numbered_faults fault test (first + 1) references) none in
    All-cons (λ word. test word ≡ true) reference references (unless-none _ _ parts.0) (numbered-targets fault test (first + 1) references parts.1)

-- the fields of a kind are a range of the words
fields-at : (kind : Kind) (edition : Edition) (words : List ℕ) (i : ℕ) → fields_of kind (object_at edition words i)
    ≡ take (count_of kind (header_at edition words i)) (drop (i + first_of kind (header_at edition words i)) words)
fields-at Header edition words i = refl
fields-at Reference edition words i = refl
fields-at Weak edition words i = ap (λ at. take (weak_of (header_at edition words i)) (drop at words)) (omega arith)
fields-at Data edition words i = ap (λ at. take (data_of (header_at edition words i)) (drop at words)) (omega arith)

-- the faults of the remaining marked objects are those of the first of them, with its fields read as a range of the
-- words, and those of the rest
pub fields-next : (kind : Kind) (edition : Edition) (test : ℕ → Bool) (words marks : List ℕ) (k : ℕ) (header : Head) (first count : ℕ) → k < length marks
    → header ≡ header_at edition words (get_or marks k 0) → first ≡ first_of kind header → count ≡ count_of kind header
    → reference_faults_by kind test (get_or marks k 0 + first) (slice_range words (get_or marks k 0 + first) (get_or marks k 0 + first + count))
    ++ field_faults_by kind edition test words (drop (k + 1) marks) ≡ field_faults_by kind edition test words (drop k marks)
fields-next kind edition test words marks k header first count within read same_first same_count =
    let mark = get_or marks k 0 in
    let first_is : first ≡ first_of kind (header_at edition words mark) = same_first ∙ ap (first_of kind) read in
    let count_is : mark + first + count - (mark + first) ≡ count_of kind (header_at edition words mark) = omega (arith, same_count ∙ ap (count_of kind) read) in
    rw (count_is, first_is, sym (fields-at kind edition words mark)) (sym (at_drop_more (field_faults_by kind edition test words) marks k 0 within))

-- objects of edition one have no weak words
pub weak-none : (words marks : List ℕ) → weak_faults One words marks ≡ []
weak-none words [] = refl
weak-none words (mark ∷ marks) = weak-none words marks

-- the fields of marked objects without a fault pass the test
pub field-targets : (kind : Kind) (edition : Edition) (test : ℕ → Bool) (words marks : List ℕ) → field_faults_by kind edition test words marks ≡ []
    → All (λ mark. All (λ word. test word ≡ true) (fields_of kind (object_at edition words mark))) marks
field-targets kind edition test words [] none = All-nil (λ mark. All (λ word. test word ≡ true) (fields_of kind (object_at edition words mark)))
field-targets kind edition test words (mark ∷ marks) none =
    let first = mark + first_of kind (header_at edition words mark) in
    let fields = fields_of kind (object_at edition words mark) in
    let parts = append-none (reference_faults_by kind test first fields) (field_faults_by kind edition test words marks) none in
    All-cons (λ k. All (λ word. test word ≡ true) (fields_of kind (object_at edition words k))) mark marks
    (numbered-targets (misled kind) test first fields parts.0) (field-targets kind edition test words marks parts.1)

-- the first fault of a list is also that of a longer list that begins with it
pub first-reported : (some more whole : List LayoutFault) (fault : LayoutFault) → some ++ more ≡ whole → IsFirst some fault → IsFirst whole fault
first-reported [] more whole fault same first = absurd first
first-reported (x ∷ some) more whole fault same first = subst (λ (list : List LayoutFault). IsFirst list fault) same first

-- if the first list is empty, the first fault of both is that of the second
pub first-behind : (some more : List LayoutFault) (fault : LayoutFault) → some ≡ [] → IsFirst more fault → IsFirst (some ++ more) fault
first-behind some more fault none first = rw none first

-- the first fault of the row and its marks is the first of all parts
pub first-object : (row marks roots targets weak : List LayoutFault) (fault : LayoutFault) → IsFirst (row ++ marks) fault
    → IsFirst (row ++ marks ++ roots ++ targets ++ weak) fault
first-object row marks roots targets weak fault first =
    first-reported ((row ++ marks) ++ roots ++ targets) weak _ fault refl
    (first-reported ((row ++ marks) ++ roots) targets _ fault refl (first-reported (row ++ marks) roots _ fault refl first))

-- if the first list is empty, both joined are the second
pub rest-reported : (some more whole : List LayoutFault) → some ++ more ≡ whole → some ≡ [] → more ≡ whole
rest-reported some more whole same none = sym (ap (λ (list : List LayoutFault). list ++ more) none) ∙ same

-- an accepted heap passes each test
pub record Passed (heap : Heap) : Type 0 where
  pub sizes : size_faults heap.edition (length heap.words) (length heap.marks) (length heap.roots) ≡ []
  pub row : flat_map (object_faults heap.edition heap.words) (starts heap.edition heap.words) ≡ []
  pub marks : mark_faults (starts heap.edition heap.words) 0 heap.marks ≡ []
  pub roots : root_faults heap.edition heap.marks heap.roots ≡ []
  pub targets : target_faults heap.edition heap.words heap.marks heap.marks ≡ []
  pub weak : weak_faults heap.edition heap.words heap.marks ≡ []

pub passed : (heap : Heap) → IsAccepted heap → Passed heap
passed heap accepted =
    let sizes = size_faults heap.edition (length heap.words) (length heap.marks) (length heap.roots) in
    let row = flat_map (object_faults heap.edition heap.words) (starts heap.edition heap.words) in
    let marks = mark_faults (starts heap.edition heap.words) 0 heap.marks in
    let roots = root_faults heap.edition heap.marks heap.roots in
    let targets = target_faults heap.edition heap.words heap.marks heap.marks in
    let five = append-none sizes (part_faults heap) accepted in
    let four = append-none (row ++ marks ++ roots ++ targets) (weak_faults heap.edition heap.words heap.marks) five.1 in
    let three = append-none (row ++ marks ++ roots) targets four.0 in
    let two = append-none (row ++ marks) roots three.0 in
    let one = append-none row marks two.0 in
    record { sizes = five.0; row = one.0; marks = one.1; roots = two.1; targets = three.1; weak = four.1 }

-- sizes without a fault are within the limits
pub sizes-few : (edition : Edition) (words marks roots : ℕ) → size_faults edition words marks roots ≡ []
    → (words ≤ most_words edition) × (marks ≤ most_words edition) × (roots ≤ most_roots edition)
sizes-few edition words marks roots none =
    let two = append-none (unless _ _ ++ unless _ _) (unless _ _) none in
    let one = append-none (unless _ _) (unless _ _) two.0 in
    (leb-true _ _ (unless-none _ _ one.0), leb-true _ _ (unless-none _ _ one.1), leb-true _ _ (unless-none _ _ two.1))

-- in a row without faults, an object without a fault is at each mark
pub marks-placed : (edition : Edition) (words marks : List ℕ) → flat_map (object_faults edition words) (starts edition words) ≡ [] → mark_faults (starts edition words) 0 marks ≡ []
    → All (IsPlaced edition words) marks
marks-placed edition words marks row none k d within = placed-start edition words (starts edition words) _ row (marks-started (starts edition words) 0 marks none k d within)

-- what acceptance means
pub closed : (heap : Heap) → IsAccepted heap → IsClosed heap
closed heap accepted =
    let parts = passed heap accepted in
    let few = sizes-few _ _ _ _ parts.sizes in
    let started = marks-started (starts heap.edition heap.words) 0 heap.marks parts.marks in
    let rising = marks-rising (starts heap.edition heap.words) 0 heap.marks parts.marks in
    record {
      few_words = few.0;
      few_marks = few.1;
      few_roots = few.2;
      started = started;
      placed = marks-placed heap.edition heap.words heap.marks parts.row parts.marks;
      apart = λ k within. starts-apart heap.edition (length heap.words) heap.words 0 _ _ (reached-first heap.edition heap.words parts.row) (omega arith) (omega arith)
          (rising k within) (started k 0 (omega arith)) (started (k + 1) 0 within);
      roots = numbered-targets (λ k. BadRoot k) (is_value heap.edition heap.marks) 0 heap.roots parts.roots;
      references = field-targets Reference heap.edition (is_value heap.edition heap.marks) heap.words heap.marks parts.targets;
      weak = field-targets Weak heap.edition (is_value heap.edition (starts heap.edition heap.words)) heap.words heap.marks parts.weak;
    }

-- the words of an accepted heap are those of its objects, object by object
pub row : (heap : Heap) → IsAccepted heap → heap.words ≡ flat_map words_of (objects heap)
row heap accepted = sym (words-from heap.edition (length heap.words) heap.words 0 (reached-first heap.edition heap.words (passed heap accepted).row) (omega arith))
