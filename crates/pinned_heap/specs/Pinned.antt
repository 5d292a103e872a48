-- What was found of a heap some of whose objects stay.
use Rattle.std.specs.Prelude.{◌≡◌, ℕ, ◌*◌, ◌<◌, ◌==◌, Bool, true, false, List, [], length, slice_index}
use Rattle.std.specs.List.{list_any}
use Rattle.heap_layout.specs.Bits.{bit}
use Rattle.heap_layout.specs.Heap.{Object, from_address, is_start, live}
use Rattle.mark_tables.specs.MarkBitmap.{set_bits, AreOffsets}
use Rattle.rest_marks.specs.Given.{heap_now}
use Rattle.rest_marks.specs.Places.{Found}
use Rattle.rest_marks.specs.Surveys.{marks_of}
use Rattle.pinned_heap.specs.Around.{led_around}
use Rattle.pinned_heap.specs.Listing.{runs_below}
use Rattle.pinned_heap.specs.Tables.{end_below, AreBases}
use Rattle.pinned_heap.specs.declared.fault.PinFault.{PinFault}
use Rattle.pinned_heap.specs.declared.fault.PinFault.TheVariants as pin
use Rattle.pinned_heap.specs.declared.run.Run.{Run}

-- what a survey found, and the indices of the objects that stay, rising
pub record FoundAround : Type 0 where
  pub found : Found
  pub still : List ℕ

-- whether the object at index i stays
abbrev pub is_still : FoundAround → ℕ → Bool
is_still pinned i = is_start pinned.still i

-- the live objects that were found, as they are in these words
abbrev pub objects_in : Found → List ℕ → List Object
objects_in found words = live (heap_now found words [])

-- where a word leads afterwards, if the objects are as in these words
abbrev pub led_in : FoundAround → List ℕ → ℕ → ℕ
led_in pinned words = led_around pinned.found.edition (is_still pinned) (objects_in pinned.found words)

-- whether a word is the address of a live object
abbrev pub is_object : Found → ℕ → Bool
is_object found word = list_any (λ mark. from_address mark == word) found.marks

-- Why objects are not pinned: this is the first pin that is not the address of a live object, or memory ran out.
abbrev pub IsPinFault : Found → List ℕ → PinFault → Type 0
IsPinFault found pins (pin.BadPin k) =
    (k < length pins) × (is_object found (slice_index pins k) ≡ false) × ((j : ℕ) → j < k → is_object found (slice_index pins j) ≡ true)
IsPinFault found pins pin.OutOfMemory = Unit {0}

-- The tables of a slide around objects that stay: `heads`, `bits` and `counts` are those of what was found, `stays` has
-- the bits of those that stay, `bases` are the bases of these, `runs` the runs of free words, and behind `end` all
-- words are free.
pub record AreTablesAround (found : Found) (heads bits counts stays bases : List ℕ) (runs : List Run) (end : ℕ) : Type 0 where
  pub marks : marks_of heads ≡ found.marks
  pub indices : set_bits bits ≡ found.indices
  pub offsets : AreOffsets bits counts
  pub same : length heads ≡ length bits
  pub objects : (i : ℕ) → bit stays i ≡ true → bit heads i ≡ true
  pub based : AreBases bits stays bases
  pub listed : runs ≡ runs_below (bit bits) (bit stays) (64 * length bits)
  pub ended : end ≡ end_below (bit bits) (bit stays) (64 * length bits)
