-- What a line of a trace answers, given the journals of all pages, and the entries that it adds.
use Rattle.std.specs.Prelude.{◌≡◌, ℕ, ◌+◌, ◌*◌, ◌<◌, ◌≤◌, List, [], ◌∷◌, ◌++◌, All, Option, None, Some, slice_index}
use Rattle.heap_layout.specs.Header.{header_with, size_of, Head}
use Rattle.heap_layout.specs.Heap.{live}
use Rattle.comp_mutator.specs.Sliding as sliding
use Rattle.heap_layout.specs.declared.kind.Kind.{Kind}
use Rattle.heap_layout.specs.declared.kind.Kind.TheVariants.{Header, Data}
use Rattle.comp_mutator.specs.Entry.{Entry}
use Rattle.comp_mutator.specs.Setup.{Setup, address}
use Rattle.comp_mutator.specs.Lists.{by, on}
use Rattle.comp_mutator.specs.Lawful.{filled}
use Rattle.comp_mutator.specs.Locks.{Journals}
use Rattle.comp_mutator.specs.Objects.{page_at, offset_at}
use Rattle.comp_mutator.specs.Fields.{IsFieldOf}
use Rattle.comp_mutator.specs.Reads.{Reads}
use Rattle.comp_mutator.specs.Allocations.{own_page}
use Rattle.comp_trace.specs.LineBuilds.{kind_if}
use Rattle.comp_trace.specs.Immediates.{IsImmediateWith}
use Rattle.comp_trace.specs.declared.text.line.Action.{Action}
use Rattle.comp_trace.specs.declared.text.line.Action.TheVariants.{Root, Load, Get, Store, Put, New, Nil, Immediate}

-- the journals, with these entries after them
abbrev pub with_entries : Journals → List (ℕ × Entry) → Journals
with_entries journals added p = journals p ++ on p added

-- the stamp is above those of all entries in the journals
abbrev pub IsAboveAll : Journals → ℕ → Type 0
IsAboveAll journals stamp = (p : ℕ) → All (λ (e : Entry). e.stamp < stamp) (journals p)

-- there is one entry, of mutator m on page p, and its stamp is above all stamps before
pub record IsOneEntry (journals : Journals) (m p : ℕ) (kind : Kind) (offset value stamp : ℕ) (added : List (ℕ × Entry)) : Type 0 where
  pub above : IsAboveAll journals stamp
  pub added_is : added ≡ (p, record { stamp = stamp; writer = m; kind = kind; offset = offset; value = value }) ∷ []

-- A value was written into a field of an object.
pub record WritesField (u : Setup) (journals : Journals) (m : ℕ) (kind : Kind) (object field value : ℕ) (added : List (ℕ × Entry)) (stamp : ℕ) : Type 0 where
  pub word_address : ℕ
  pub field_of : IsFieldOf u journals kind object field word_address
  pub entry : IsOneEntry journals m (page_at word_address) kind (offset_at word_address) value stamp added

-- the number of words of the objects that the mutator made on its own page of this index
abbrev pub used_by : Setup → Journals → ℕ → ℕ → ℕ
used_by u journals m index = filled u.heap.edition (by m (journals (own_page u m index)))

-- An object was made after the others on the lowest page of the mutator that has room.
pub record MakesObject (u : Setup) (journals : Journals) (m : ℕ) (header : Head) (added : List (ℕ × Entry)) (word_address : ℕ) : Type 0 where
  -- the header is one of the heap's edition
  pub edition : header.edition ≡ u.heap.edition
  pub index : ℕ
  pub there : m + index * u.mutators < u.fresh
  pub room : used_by u journals m index + size_of header ≤ 64
  pub lower : (i : ℕ) → i < index → 64 < used_by u journals m i + size_of header
  pub address_is : word_address ≡ address (own_page u m index) (used_by u journals m index)
  pub stamp : ℕ
  pub entry : IsOneEntry journals m (own_page u m index) Header (used_by u journals m index) header.word stamp added

-- the edition has the header that was asked for, and an object with it was made
abbrev pub MakesAsked : Setup → Journals → ℕ → Option Head → List (ℕ × Entry) → ℕ → Type 0
MakesAsked u journals m None added word_address = ⊥
MakesAsked u journals m (Some header) added word_address = MakesObject u journals m header added word_address

-- What a line of mutator m answers, and the entries that it adds, if its registers hold these words and the pages have
-- these journals.
abbrev pub Acts : Setup → Journals → ℕ → Action → List ℕ → List (ℕ × Entry) → ℕ → Type 0
Acts u journals m (Root to root) registers added answer = (added ≡ []) × (sliding.forward_value u.heap.edition (live u.heap) (slice_index u.heap.roots root) ≡ Some answer)
Acts u journals m (Load weak to object field) registers added answer = (added ≡ []) × Reads u journals (kind_if weak) (slice_index registers object) field answer
Acts u journals m (Get object field) registers added answer = (added ≡ []) × Reads u journals Data (slice_index registers object) field answer
Acts u journals m (Store weak object field value) registers added answer =
    WritesField u journals m (kind_if weak) (slice_index registers object) field (slice_index registers value) added answer
Acts u journals m (Put object field value) registers added answer = WritesField u journals m Data (slice_index registers object) field value added answer
Acts u journals m (New to refs weak data_words tag) registers added answer = MakesAsked u journals m (header_with u.heap.edition refs weak data_words tag) added answer
Acts u journals m (Nil to) registers added answer = (added ≡ []) × (answer ≡ 0)
Acts u journals m (Immediate to payload) registers added answer = (added ≡ []) × IsImmediateWith u payload answer
