-- The heap with which the next cycle begins. Its from-space words are the to-space words of this cycle.
use Rattle.std.specs.Prelude.{ℕ, ◌+◌, ◌-◌, ◌*◌, ◌/◌, ◌%◌, ◌^◌, ◌==◌, ◌||◌, nat_le, Bool, true, false, cond, List, ◌++◌, filter, length, map, Option, Some, None}
use Rattle.std.specs.List.{range_with_len}
use Rattle.heap_layout.specs.Heap.{Heap}
use Rattle.heap_layout.specs.Faults.{size_faults, mark_faults, root_faults, target_faults, weak_faults}
use Rattle.heap_layout.specs.Kinds.{refers}
use Rattle.heap_layout.specs.Values.{is_immediate}
use Rattle.heap_layout.specs.declared.edition.Edition.{Edition}
use Rattle.heap_layout.specs.declared.fault.LayoutFault.{LayoutFault}
use Rattle.heap_layout.specs.declared.kind.Kind.{Kind}
use Rattle.heap_layout.specs.declared.kind.Kind.TheVariants.{Header, Reference, Weak, Data}
use Rattle.comp_history.specs.Setup.{Setup, pages}
use Rattle.comp_history.specs.Lawful.{kind_at}
use Rattle.comp_history.specs.Locks.{Journals}
use Rattle.comp_history.specs.Objects.{word_on}

-- to-space word i at the end of the cycle
abbrev pub word_in : Setup → Journals → ℕ → ℕ
word_in u journals i = word_on u journals (i / 64) (i % 64)

-- the kind of to-space word i at the end of the cycle; None outside all objects
abbrev pub kind_in : Setup → Journals → ℕ → Option Kind
kind_in u journals i = kind_at u (i / 64) (journals (i / 64)) (i % 64)

-- a to-space address as an address of the next heap's from-space; null stays null, since subtraction stops at 0, and an
-- immediate of the edition stays as it is
abbrev pub lowered : Edition → ℕ → ℕ
lowered edition a = cond (is_immediate edition a) a (a - 2 ^ 32)

-- A root that is handed in, as it is read: a word that is neither null nor a to-space address becomes one that is
-- lowered to 1, which is no address of the next heap. Lowered as it is, it could become null.
abbrev pub held : ℕ → ℕ
held a = cond ((a == 0) || nat_le (2 ^ 33) a) a (2 ^ 32 + 1)

-- a word of this kind in the next heap: references and weak words are lowered, all others stay
abbrev pub lowered_as : Edition → Option Kind → ℕ → ℕ
lowered_as edition (Some kind) word = cond (refers kind) (lowered edition word) word
lowered_as edition None word = word

-- word i of the next heap
abbrev pub next_word : Setup → Journals → ℕ → ℕ
next_word u journals i = lowered_as u.heap.edition (kind_in u journals i) (word_in u journals i)

-- the next heap, given the addresses to which the roots lead and the indices that are marked
abbrev pub next_heap : Setup → Journals → List ℕ → List ℕ → Heap
next_heap u journals roots marks = record {
  edition = u.heap.edition;
  words = map (next_word u journals) (range_with_len 0 (64 * pages u));
  marks = marks;
  roots = map (lowered u.heap.edition) roots;
}

-- the kind is that of a header
abbrev pub is_header : Option Kind → Bool
is_header (Some Header) = true
is_header (Some Reference) = false
is_header (Some Weak) = false
is_header (Some Data) = false
is_header None = false

-- the indices at which objects start: those that slid, and those that were made. A word outside all objects is no start
abbrev pub object_starts : Setup → Journals → List ℕ
object_starts u journals = filter (λ i. is_header (kind_in u journals i)) (range_with_len 0 (64 * pages u))

-- the faults for which the next heap is refused: the first one counts
abbrev pub next_faults : Setup → Journals → Heap → List LayoutFault
next_faults u journals heap =
    size_faults heap.edition (length heap.words) (length heap.marks) (length heap.roots)
    ++ mark_faults (object_starts u journals) 0 heap.marks
    ++ root_faults heap.edition heap.marks heap.roots
    ++ target_faults heap.edition heap.words heap.marks heap.marks
    ++ weak_faults heap.edition heap.words heap.marks
