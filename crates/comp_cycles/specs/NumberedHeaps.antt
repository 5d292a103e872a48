-- Heaps in object numbers: addresses are replaced by the numbers of the objects.
use Rattle.std.specs.Prelude.{◌≡◌, ℕ, ◌+◌, ◌-◌, ◌<◌, ◌≤◌, ◌&&◌, nat_le, nat_lt, cond, List, [], ◌∷◌, ◌++◌, length, map, slice_index, slice_index_or, zip}
use Rattle.std.specs.List.{range_with_len}
use Rattle.heap_layout.specs.Header.{Head, refs_of, weak_of, size_of}
use Rattle.heap_layout.specs.Kinds.{refers, first_of}
use Rattle.heap_layout.specs.Values.{is_immediate}
use Rattle.heap_layout.specs.declared.edition.Edition.{Edition}
use Rattle.heap_layout.specs.Heap.{Heap, Object, live, from_address}
use Rattle.heap_layout.specs.declared.kind.Kind.{Kind}
use Rattle.heap_layout.specs.declared.kind.Kind.TheVariants.{Header, Reference, Weak, Data}
use Rattle.comp_journal.specs.declared.entry.Entry.{Entry}
use Rattle.comp_history.specs.Lists.{look}
use Rattle.comp_history.specs.OneThread.{OneThreadHeap, HasStart, header_in, address_of, after}
use Rattle.comp_cycles.specs.Stable.{StableHeap, Step, Makes, Writes, IsAmong}

-- Addresses of objects, each with its object's number, in a heap of this edition.
pub record Names : Type 0 where
  pub edition : Edition
  pub numbers : List (ℕ × ℕ)

-- the number of the object that starts at this address; 0 for null, and if no object does; an immediate stands for
-- itself
abbrev pub number_at : Names → ℕ → ℕ
number_at names a = cond (is_immediate names.edition a) a (look 0 names.numbers a)

-- how many words of an object with this header are null or lead to objects: its references and its weak words
abbrev pub pointers_of : Head → ℕ
pointers_of header = refs_of header + weak_of header

-- ---- the live objects of a heap

-- the live objects, by rising address, each with its number
abbrev pub names_in : Heap → List ℕ → Names
names_in heap numbers = record { edition = heap.edition; numbers = zip (map from_address heap.marks) numbers }

-- The words of an object in object numbers: each reference and weak word is a number. A weak word that leads to an
-- object without a number is 0.
abbrev pub numbered_object : Names → Object → List ℕ
numbered_object names object = object.header.word ∷ (map (number_at names) object.references ++ map (number_at names) object.weak ++ object.data_words)

-- The stable heap has exactly the live objects of the heap, and its roots; these are the objects' numbers, by rising
-- address.
pub record IsNumberedAs (heap : Heap) (numbers : List ℕ) (stable : StableHeap) : Type 0 where
  pub edition : stable.edition ≡ heap.edition
  pub there : stable.there ≡ numbers
  pub words : map stable.words numbers ≡ map (numbered_object (names_in heap numbers)) (live heap)
  pub roots : stable.roots ≡ map (number_at (names_in heap numbers)) heap.roots
  -- the numbers have been given out, each once
  pub given : (i : ℕ) → i < length numbers → (1 ≤ slice_index numbers i) × (slice_index numbers i ≤ stable.given)
  pub once : (i j : ℕ) → i < length numbers → j < length numbers → slice_index numbers i ≡ slice_index numbers j → i ≡ j

-- in the first heap, the live objects have the numbers 1, 2, 3 and so on
abbrev pub first_numbers : Heap → List ℕ
first_numbers heap = range_with_len 1 (length heap.marks)

-- the stable heap with the objects and the roots of the first heap
abbrev pub first_numbered : Heap → StableHeap
first_numbered heap = record {
  edition = heap.edition;
  given = length heap.marks;
  there = first_numbers heap;
  words = λ n. slice_index_or (map (numbered_object (names_in heap (first_numbers heap))) (live heap)) (n - 1) [];
  roots = map (number_at (names_in heap (first_numbers heap))) heap.roots;
}

-- ---- the objects of the heap of one thread

-- a word of an object in object numbers, by its index in the object: the words that lead to objects become numbers, all
-- others stay
abbrev pub numbered_word : Names → ℕ → ℕ → ℕ → ℕ
numbered_word names pointers at word = cond (nat_le 1 at && nat_le at pointers) (number_at names word) word

-- The objects of the heap of one thread, with these names, are in the stable heap.
pub record AreNumbered (names : Names) (heap : OneThreadHeap) (stable : StableHeap) : Type 0 where
  pub edition : stable.edition ≡ heap.edition
  -- each object exists there, with a number of its own
  pub there : (a : ℕ) → HasStart heap a → IsAmong stable.there (number_at names a)
  pub one : (a b : ℕ) → HasStart heap a → HasStart heap b → number_at names a ≡ number_at names b → a ≡ b
  -- each object has the same words there
  pub long : (a : ℕ) → HasStart heap a → length (stable.words (number_at names a)) ≡ size_of (header_in heap a)
  pub words : (a at : ℕ) → HasStart heap a → at < size_of (header_in heap a)
      → slice_index (stable.words (number_at names a)) at ≡ numbered_word names (pointers_of (header_in heap a)) at (heap.word (a + at))

-- ---- what is written into the heap of one thread

-- the start of the object that has the word at this address, among objects with these starts and headers
abbrev pub owner : (ℕ → Head) → List ℕ → ℕ → ℕ
owner header [] a = 0
owner header (start ∷ starts) a = cond (nat_le start a && nat_lt a (start + size_of (header start))) start (owner header starts a)

-- a value written into a field of this kind: the number of its object if the kind refers
abbrev pub numbered_value : Names → Kind → ℕ → ℕ
numbered_value names kind value = cond (refers kind) (number_at names value) value

-- the step that writes a field of this kind
abbrev pub write_of : Names → OneThreadHeap → Kind → ℕ → ℕ → Step
write_of names heap kind a value =
    let object = owner (header_in heap) heap.starts a in
    Writes kind (number_at names object) (a - (object + first_of kind (header_in heap object))) (numbered_value names kind value)

-- the step that writes a word of this kind
abbrev pub step_of : Names → OneThreadHeap → Kind → ℕ → ℕ → Step
step_of names heap Header a value = Makes value
step_of names heap Reference a value = write_of names heap Reference a value
step_of names heap Weak a value = write_of names heap Weak a value
step_of names heap Data a value = write_of names heap Data a value

-- the steps that write these entries into the heap, one after the other
abbrev pub numbered : Names → OneThreadHeap → List (ℕ × Entry) → List Step
numbered names heap [] = []
numbered names heap (x ∷ xs) = step_of names heap x.1.kind (address_of x) x.1.value ∷ numbered names (after heap x) xs

-- the address, if a word of this kind makes an object, and then the later ones
abbrev pub made_by : Kind → ℕ → List ℕ → List ℕ
made_by Header a later = a ∷ later
made_by Reference a later = later
made_by Weak a later = later
made_by Data a later = later

-- the addresses at which the entries make objects, in order
abbrev pub made_at : List (ℕ × Entry) → List ℕ
made_at [] = []
made_at (x ∷ xs) = made_by x.1.kind (address_of x) (made_at xs)
