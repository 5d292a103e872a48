-- The stable heap, whose objects never move. An object keeps its number: 1, 2, 3 and so on, in the order in which the
-- objects were made; 0 is null. The words of an object are its header, then its references and weak words, each the
-- number of an object or 0, and then its data words. The roots are numbers of objects, or 0. In edition four a
-- reference, a weak word or a root may also be an immediate, which stands for itself.
use Rattle.std.specs.Prelude.{◌≡◌, ℕ, ◌+◌, ◌-◌, ◌<◌, ◌==◌, ◌&&◌, ◌||◌, ◌⊎◌, Bool, true, nat_le, nat_lt, cond, List, [], ◌∷◌, fold, replicate, slice_index, slice_set}
use Rattle.std.specs.List.{list_any}
use mathlib.Core.Option.{some}
use lib.ListN.{get_elem?}
use Rattle.heap_layout.specs.Header.{Head, header_of, refs_of, size_of}
use Rattle.heap_layout.specs.Kinds.{refers, count_of, first_of}
use Rattle.heap_layout.specs.Values.{is_immediate, LeadsNowhere}
use Rattle.heap_layout.specs.declared.edition.Edition.{Edition}
use Rattle.heap_layout.specs.declared.kind.Kind.{Kind}
use Rattle.heap_layout.specs.declared.kind.Kind.TheVariants.{Weak, Data}
use Rattle.comp_history.specs.Lists.{but}

pub record StableHeap : Type 0 where
  -- the edition by which headers are read
  pub edition : Edition
  -- how many numbers have been given out
  pub given : ℕ
  -- the numbers of the objects that exist
  pub there : List ℕ
  -- the words of each object
  pub words : ℕ → List ℕ
  -- the objects to which the roots lead; 0 for a root that is null
  pub roots : List ℕ

-- A step in the life of the stable heap.
pub data Step : Type 0 where
  -- makes an object with this header; its fields are null and 0, and it gets the next number
  Makes : (header : ℕ) → Step
  -- writes a field of an object; `field` is its index among the object's fields of this kind
  Writes : (kind : Kind) (object field value : ℕ) → Step
  -- from now on the roots lead to these objects; 0 for a root that is null
  Roots : (objects : List ℕ) → Step
  -- keeps these objects and drops all others; weak words that lead to dropped objects become null
  Keeps : (objects : List ℕ) → Step

-- the header of an object
abbrev pub head_of : StableHeap → ℕ → Head
head_of heap n = header_of heap.edition (slice_index (heap.words n) 0)

-- this number is in the list
abbrev pub IsAmong : List ℕ → ℕ → Type 0
IsAmong numbers n = (i : ℕ) × (get_elem? numbers i ≡ some n)

-- this number is 0 or in the list, or in edition four an immediate
abbrev pub IsNullOrAmong : Edition → List ℕ → ℕ → Type 0
IsNullOrAmong edition numbers n = LeadsNowhere edition n ⊎ IsAmong numbers n

-- this number is in the list, as a test
abbrev pub is_among : List ℕ → ℕ → Bool
is_among numbers n = list_any (λ m. m == n) numbers

-- These objects may be kept: they exist, and each root and each reference of each of them is null, an immediate, or
-- leads to one of them. Weak words are not restricted.
pub record MayKeep (heap : StableHeap) (objects : List ℕ) : Type 0 where
  pub there : (n : ℕ) → IsAmong objects n → IsAmong heap.there n
  pub roots : (n : ℕ) → IsAmong heap.roots n → IsNullOrAmong heap.edition objects n
  pub closed : (n field : ℕ) → IsAmong objects n → field < refs_of (head_of heap n) → IsNullOrAmong heap.edition objects (slice_index (heap.words n) (1 + field))

-- The step may be made. A root, and a value written as a reference or a weak word, must be null, an immediate, or the
-- number of an object that exists.
abbrev pub MayStep : StableHeap → Step → Type 0
MayStep heap (Makes header) = Unit {0}
MayStep heap (Writes kind object field value) =
    IsAmong heap.there object × (field < count_of kind (head_of heap object)) × (refers kind ≡ true → IsNullOrAmong heap.edition heap.there value)
MayStep heap (Roots objects) = (n : ℕ) → IsAmong objects n → IsNullOrAmong heap.edition heap.there n
MayStep heap (Keeps objects) = MayKeep heap objects

-- a word of an object with this header, by its index in the object, after only these objects were kept: a weak word
-- that leads to none of them is null, unless it is an immediate
abbrev pub left_word : Head → List ℕ → ℕ → ℕ → ℕ
left_word header objects at word =
    cond (nat_le (first_of Weak header) at && nat_lt at (first_of Data header)) (cond (is_immediate header.edition word || is_among objects word) word 0) word

-- the words of an object from an index on, after only these objects were kept
abbrev pub left_words : Head → List ℕ → ℕ → List ℕ → List ℕ
left_words header objects at [] = []
left_words header objects at (word ∷ words) = left_word header objects at word ∷ left_words header objects (at + 1) words

-- the heap after one word of an object was written
abbrev pub with_word : StableHeap → ℕ → ℕ → ℕ → StableHeap
with_word heap object at value = record heap { words = but heap.words object (slice_set (heap.words object) at value) }

-- the heap after the step was made
abbrev pub stepped : StableHeap → Step → StableHeap
stepped heap (Makes header) = record heap {
  given = heap.given + 1;
  there = (heap.given + 1) ∷ heap.there;
  words = but heap.words (heap.given + 1) (header ∷ replicate (size_of (header_of heap.edition header) - 1) 0);
}
stepped heap (Writes kind object field value) = with_word heap object (first_of kind (head_of heap object) + field) value
stepped heap (Roots objects) = record heap { roots = objects }
stepped heap (Keeps objects) = record heap { there = objects; words = λ n. left_words (head_of heap n) objects 0 (heap.words n) }

-- the steps may be made, one after the other
abbrev pub IsLife : StableHeap → List Step → Type 0
IsLife heap [] = Unit {0}
IsLife heap (step ∷ steps) = MayStep heap step × IsLife (stepped heap step) steps

-- the heap after these steps were made
abbrev pub lived : StableHeap → List Step → StableHeap
lived heap steps = fold stepped heap steps
