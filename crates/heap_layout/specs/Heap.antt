-- A marked heap: its edition, its words, the indices of its marked objects, its roots. The objects stand side by side
-- from index 0.
use Rattle.std.specs.Prelude.{◌≡◌, ℕ, zero, suc, ◌+◌, ◌-◌, ◌^◌, ◌<◌, ◌≤◌, ◌==◌, ◌||◌, Bool, true, List, [], ◌∷◌, ◌++◌, length, take, drop, map, All, slice_index}
use Rattle.std.specs.List.{list_any}
use Rattle.heap_layout.specs.declared.edition.Edition.{Edition}
use Rattle.heap_layout.specs.declared.kind.Kind.{Kind}
use Rattle.heap_layout.specs.declared.kind.Kind.TheVariants.{Header, Reference, Weak, Data}
use Rattle.heap_layout.specs.Values.{or_immediate}
use Rattle.heap_layout.specs.Limits.{most_words, most_roots, most_object_words}
use Rattle.heap_layout.specs.Header.{Head, header_of, refs_of, weak_of, data_of, size_of}

pub record Heap : Type 0 where
  pub edition : Edition
  pub words : List ℕ
  pub marks : List ℕ
  pub roots : List ℕ

pub record Object : Type 0 where
  pub index : ℕ
  pub header : Head
  pub references : List ℕ
  pub weak : List ℕ
  pub data_words : List ℕ

-- the word at index i, read as a header
abbrev pub header_at : Edition → List ℕ → ℕ → Head
header_at edition words i = header_of edition (slice_index words i)

-- the object with its header at index i
abbrev pub object_at : Edition → List ℕ → ℕ → Object
object_at edition words i =
    let header = header_at edition words i in
    record {
      index = i;
      header = header;
      references = take (refs_of header) (drop (i + 1) words);
      weak = take (weak_of header) (drop (i + 1 + refs_of header) words);
      data_words = take (data_of header) (drop (i + 1 + refs_of header + weak_of header) words);
    }

-- the fields of this kind, in order
abbrev pub fields_of : Kind → Object → List ℕ
fields_of Header object = []
fields_of Reference object = object.references
fields_of Weak object = object.weak
fields_of Data object = object.data_words

-- the words of an object, in order
abbrev pub words_of : Object → List ℕ
words_of object = object.header.word ∷ (object.references ++ object.weak ++ object.data_words)

-- the indices at which objects start; the words begin at index i, and the first `covered` of them belong to an earlier
-- object
abbrev pub starts_from : Edition → ℕ → ℕ → List ℕ → List ℕ
starts_from edition i covered [] = []
starts_from edition i zero (word ∷ words) = i ∷ starts_from edition (i + 1) (size_of (header_of edition word) - 1) words
starts_from edition i (suc covered) (word ∷ words) = starts_from edition (i + 1) covered words

-- the indices at which objects start
abbrev pub starts : Edition → List ℕ → List ℕ
starts edition words = starts_from edition 0 0 words

-- the indices from i on at which objects start, if an object starts at i or the words end there
abbrev pub starts_at : Edition → List ℕ → ℕ → List ℕ
starts_at edition words i = starts_from edition i 0 (drop i words)

-- all objects of the heap, marked or not, by rising address
abbrev pub objects : Heap → List Object
objects heap = map (object_at heap.edition heap.words) (starts heap.edition heap.words)

-- the live objects: the marked ones, by rising address
abbrev pub live : Heap → List Object
live heap = map (object_at heap.edition heap.words) heap.marks

-- the address of the from-space word i
abbrev pub from_address : ℕ → ℕ
from_address i = 2 ^ 32 + i

-- whether an object starts at index i
abbrev pub is_start : List ℕ → ℕ → Bool
is_start row i = list_any (λ start. start == i) row

-- whether a root, a reference or a weak word is null, or the address of one of the objects that start at these indices
abbrev pub is_target : List ℕ → ℕ → Bool
is_target marks reference = (reference == 0) || list_any (λ mark. from_address mark == reference) marks

abbrev pub IsTarget : List ℕ → ℕ → Type 0
IsTarget marks reference = is_target marks reference ≡ true

-- whether a root, a reference or a weak word of a heap of this edition is an immediate, null, or the address of one of
-- the objects that start at these indices
abbrev pub is_value : Edition → List ℕ → ℕ → Bool
is_value edition marks = or_immediate edition (is_target marks)

abbrev pub IsValue : Edition → List ℕ → ℕ → Type 0
IsValue edition marks word = is_value edition marks word ≡ true

-- the object at index i ends within the words, and is no longer than an object of the edition may be
pub record IsPlaced (edition : Edition) (words : List ℕ) (i : ℕ) : Type 0 where
  pub within : i + size_of (header_at edition words i) ≤ length words
  pub short : size_of (header_at edition words i) ≤ most_object_words edition

-- the numbers fit the fields in which an image stores them
pub record IsStored (heap : Heap) : Type 0 where
  pub words : All (λ word. word < 2 ^ 64) heap.words
  pub marks : All (λ mark. mark < 2 ^ 32) heap.marks
  pub roots : All (λ root. root < 2 ^ 64) heap.roots

-- What acceptance means. The marked objects are objects of the row and do not overlap. Every root and every reference
-- of a marked object is null or the address of a marked object. Every weak word of a marked object is null or the
-- address of an object. In edition four each of them may also be an immediate.
pub record IsClosed (heap : Heap) : Type 0 where
  pub few_words : length heap.words ≤ most_words heap.edition
  pub few_marks : length heap.marks ≤ most_words heap.edition
  pub few_roots : length heap.roots ≤ most_roots heap.edition
  pub started : All (λ mark. is_start (starts heap.edition heap.words) mark ≡ true) heap.marks
  pub placed : All (IsPlaced heap.edition heap.words) heap.marks
  pub apart : (k : ℕ) → k + 1 < length heap.marks
      → slice_index heap.marks k + size_of (header_at heap.edition heap.words (slice_index heap.marks k)) ≤ slice_index heap.marks (k + 1)
  pub roots : All (IsValue heap.edition heap.marks) heap.roots
  pub references : All (λ mark. All (IsValue heap.edition heap.marks) (object_at heap.edition heap.words mark).references) heap.marks
  pub weak : All (λ mark. All (IsValue heap.edition (starts heap.edition heap.words)) (object_at heap.edition heap.words mark).weak) heap.marks
