-- The heap of one thread: a word at each address, and the addresses at which objects start. Entries are written into it
-- one by one. A list of entries is legal if each of them may be written into the heap that the entries before it made.
use Rattle.std.specs.Prelude.{◌≡◌, ℕ, ◌+◌, ◌<◌, ◌≤◌, ◌⊎◌, List, [], ◌∷◌, fold, map, length, slice_index}
use Rattle.std.specs.List.{range_with_len}
use mathlib.Core.Option.{some}
use lib.ListN.{get_elem?}
use Rattle.heap_layout.specs.Header.{Head, header_of, size_of}
use Rattle.heap_layout.specs.Values.{LeadsNowhere}
use Rattle.heap_layout.specs.Heap.{live}
use Rattle.heap_layout.specs.declared.kind.Kind.{Kind}
use Rattle.heap_layout.specs.declared.kind.Kind.TheVariants.{Header, Reference, Weak, Data}
use Rattle.heap_layout.specs.Kinds.{count_of, first_of}
use Rattle.heap_layout.specs.declared.edition.Edition.{Edition}
use Rattle.page_plan.specs.Sliding.{new_address}
use Rattle.comp_journal.specs.declared.entry.Entry.{Entry}
use Rattle.cell_steps.specs.Setup.{Setup, address, base_of}
use Rattle.cell_steps.specs.Lists.{but}
use Rattle.page_cells.specs.Objects.{page_at, offset_at}

-- the word at the start of an object, read by the edition, is the object's header
pub record OneThreadHeap : Type 0 where
  pub edition : Edition
  pub word : ℕ → ℕ
  pub starts : List ℕ

-- an object of the heap starts at the address
abbrev pub HasStart : OneThreadHeap → ℕ → Type 0
HasStart heap a = (i : ℕ) × (get_elem? heap.starts i ≡ some a)

-- the heap at first: each compacted page as sliding compaction makes it, each fresh page as zeros, and the slid objects
abbrev pub first_heap : Setup → OneThreadHeap
first_heap u = record {
  edition = u.heap.edition;
  word = λ a. slice_index (base_of u (page_at a)) (offset_at a);
  starts = map (new_address (live u.heap)) (range_with_len 0 (length (live u.heap)));
}

-- the header of the object that starts at this address
abbrev pub header_in : OneThreadHeap → ℕ → Head
header_in heap a = header_of heap.edition (heap.word a)

-- The word at this address is a field of this kind of an object of the heap.
pub record IsFieldIn (heap : OneThreadHeap) (k : Kind) (a : ℕ) : Type 0 where
  pub object : ℕ
  pub field : ℕ
  pub there : HasStart heap object
  pub inside : field < count_of k (header_in heap object)
  pub at : a ≡ object + first_of k (header_in heap object) + field

-- no object has a word among the `size` words from this address on
abbrev pub IsFree : OneThreadHeap → ℕ → ℕ → Type 0
IsFree heap a size = (object : ℕ) → HasStart heap object → (object + size_of (header_in heap object) ≤ a) ⊎ (a + size ≤ object)

-- the value is null or the start of an object of the heap, or in edition four an immediate
abbrev pub IsNullOrStart : OneThreadHeap → ℕ → Type 0
IsNullOrStart heap value = LeadsNowhere heap.edition value ⊎ HasStart heap value

-- The value may be written at this address. A header: all words of the new object must be free. A reference or weak
-- word: it must hit a word of this kind, and be null, an immediate, or lead to an object that already exists. A data
-- word: it must hit a data word.
abbrev pub MayWrite : OneThreadHeap → Kind → ℕ → ℕ → Type 0
MayWrite heap Header a value = IsFree heap a (size_of (header_of heap.edition value))
MayWrite heap Reference a value = IsFieldIn heap Reference a × IsNullOrStart heap value
MayWrite heap Weak a value = IsFieldIn heap Weak a × IsNullOrStart heap value
MayWrite heap Data a value = IsFieldIn heap Data a

-- the starts after a word of this kind was written: a header makes an object
abbrev pub starts_after : Kind → ℕ → List ℕ → List ℕ
starts_after Header a starts = a ∷ starts
starts_after Reference a starts = starts
starts_after Weak a starts = starts
starts_after Data a starts = starts

-- the address at which an entry of a page is written
abbrev pub address_of : ℕ × Entry → ℕ
address_of x = address x.0 x.1.offset

-- the heap after the entry was written
abbrev pub after : OneThreadHeap → ℕ × Entry → OneThreadHeap
after heap x = record { edition = heap.edition; word = but heap.word (address_of x) x.1.value; starts = starts_after x.1.kind (address_of x) heap.starts }

-- one thread may write these entries, one after the other
abbrev pub IsLegal : OneThreadHeap → List (ℕ × Entry) → Type 0
IsLegal heap [] = Unit {0}
IsLegal heap (x ∷ xs) = MayWrite heap x.1.kind (address_of x) x.1.value × IsLegal (after heap x) xs

-- the heap after these entries were written
abbrev pub result_of : OneThreadHeap → List (ℕ × Entry) → OneThreadHeap
result_of heap entries = fold after heap entries
