-- Why a line is refused, as facts of the run before it.
use Rattle.std.specs.Prelude.{◌≡◌, ◌⊎◌, ℕ, true, List, length, slice_index}
use Rattle.heap_layout.specs.declared.kind.Kind.{Kind}
use Rattle.heap_layout.specs.declared.kind.Kind.TheVariants as kinds
use Rattle.comp_mutator.specs.Setup.{Setup}
use Rattle.comp_mutator.specs.Locks.{Journals}
use Rattle.comp_mutator.specs.Objects.{page_at}
use Rattle.comp_mutator.specs.Pass.{Pass}
use Rattle.comp_mutator.specs.Fields.{HasSlidFieldOn, IsFieldOf, LacksField}
use Rattle.comp_mutator.specs.Allocations.{own_page}
use Rattle.comp_mutator.specs.Refusal.{Refusal}
use Rattle.comp_mutator.specs.Refusal.TheVariants.{Null, NotAStart, NoSuchField, NotInEdition, ObjectTooLarge, OutOfPages, Busy, JournalFull, OutOfMemory}
use Rattle.comp_trace.specs.LineBuilds.{is_built, kind_if}
use Rattle.comp_trace.specs.Immediates.{HasNoImmediate}
use Rattle.comp_trace.specs.Lines.{with_entries}
use Rattle.comp_trace.specs.declared.steps.shown.Shown.{Shown}
use Rattle.comp_trace.specs.declared.text.line.Action.{Action}
use Rattle.comp_trace.specs.declared.text.line.Action.TheVariants.{Root, Load, Get, Store, Put, New, Nil, Immediate}
use Rattle.comp_trace.specs.declared.text.line.Line.{Line}
use Rattle.comp_trace.specs.Bytes.{no_entries, IsCutShort}
use Rattle.comp_trace.specs.Runs.{Moment}

-- the journals that a run made
abbrev pub journals_at : Moment → Journals
journals_at moment = with_entries no_entries moment.added

-- the run filled the journal of page p
abbrev pub IsFilled : Moment → ℕ → Type 0
IsFilled moment p = length (journals_at moment p) ≡ 1024

-- the run did not build page p
abbrev pub IsUnbuilt : Moment → ℕ → Type 0
IsUnbuilt moment p = is_built moment.built p ≡ true → ⊥

-- the object has this field, in the slid heap or as the run made it, and the field's word is on page p
abbrev pub LiesOn : Setup → Moment → Kind → ℕ → ℕ → ℕ → Type 0
LiesOn u moment kind object field p = (a : ℕ) × IsFieldOf u (journals_at moment) kind object field a × (p ≡ page_at a)

-- why a call on a field is refused: the object lacks the field; the journal of the field's page is full; there is no
-- memory for a page that the run did not build, or for an entry into a journal that is not full. Of other refusals this
-- says nothing.
abbrev pub HasFieldCause : Setup → Moment → Kind → ℕ → ℕ → Refusal → Type 0
HasFieldCause u moment kind object field NoSuchField = LacksField u (journals_at moment) kind object field
HasFieldCause u moment kind object field (JournalFull p) = LiesOn u moment kind object field p × IsFilled moment p
HasFieldCause u moment kind object field OutOfMemory =
    (p : ℕ) × ((HasSlidFieldOn u kind object field p × IsUnbuilt moment p) ⊎ (LiesOn u moment kind object field p × (IsFilled moment p → ⊥)))
HasFieldCause u moment kind object field Null = Unit {0}
HasFieldCause u moment kind object field (NotAStart a) = Unit {0}
HasFieldCause u moment kind object field NotInEdition = Unit {0}
HasFieldCause u moment kind object field ObjectTooLarge = Unit {0}
HasFieldCause u moment kind object field OutOfPages = Unit {0}
HasFieldCause u moment kind object field (Busy p) = Unit {0}

-- page p is one of mutator m's own pages
abbrev pub IsOwnOf : Setup → ℕ → ℕ → Type 0
IsOwnOf u m p = (index : ℕ) × (p ≡ own_page u m index)

-- why mutator m is refused a new object
abbrev pub HasNewCause : Setup → Moment → ℕ → Refusal → Type 0
HasNewCause u moment m NoSuchField = ⊥
HasNewCause u moment m (JournalFull p) = IsOwnOf u m p × IsFilled moment p
HasNewCause u moment m OutOfMemory = (p : ℕ) × IsOwnOf u m p × (IsUnbuilt moment p ⊎ (IsFilled moment p → ⊥))
HasNewCause u moment m Null = Unit {0}
HasNewCause u moment m (NotAStart a) = Unit {0}
HasNewCause u moment m NotInEdition = Unit {0}
HasNewCause u moment m ObjectTooLarge = Unit {0}
HasNewCause u moment m OutOfPages = Unit {0}
HasNewCause u moment m (Busy p) = Unit {0}

-- why a line of mutator m is refused
abbrev pub HasCause : Setup → Moment → ℕ → Action → List ℕ → Refusal → Type 0
HasCause u moment m (Root to root) registers refusal = ⊥
HasCause u moment m (Load weak to object field) registers refusal = HasFieldCause u moment (kind_if weak) (slice_index registers object) field refusal
HasCause u moment m (Get object field) registers refusal = HasFieldCause u moment kinds.Data (slice_index registers object) field refusal
HasCause u moment m (Store weak object field value) registers refusal = HasFieldCause u moment (kind_if weak) (slice_index registers object) field refusal
HasCause u moment m (Put object field value) registers refusal = HasFieldCause u moment kinds.Data (slice_index registers object) field refusal
HasCause u moment m (New to refs weak data_words tag) registers refusal = HasNewCause u moment m refusal
HasCause u moment m (Nil to) registers refusal = ⊥
HasCause u moment m (Immediate to payload) registers refusal = HasNoImmediate u payload refusal

-- a run that was cut short by a refused line has the cause of the refusal itself
abbrev pub AreOfRuns : Type 0
AreOfRuns = (u : Setup) (first : List Pass) (lines : List Line) (shown : List Shown) (number : ℕ) (refusal : Refusal) (cut : IsCutShort u first lines shown number refusal)
    → HasCause u cut.end cut.line.mutator cut.line.action (cut.end.registers cut.line.mutator) refusal
