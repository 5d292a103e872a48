-- A run that was cut short by a refused line has the cause of the refusal itself.
use Rattle.std.proofs.Common.{◌≡◌, ℕ, List, length, sym, ap, subst, ◌∙◌, inl, inr}
use Rattle.std.specs.Prelude.{Option, None, Some, slice_index}
use mathlib.Core.Logic.{⊎_elim}
use Rattle.heap_layout.specs.Header.{header_with, size_of, Head}
use Rattle.heap_layout.specs.declared.kind.Kind.{Kind}
use Rattle.heap_layout.specs.declared.kind.Kind.TheVariants as kinds
use Rattle.comp_mutator.specs.Setup.{Setup}
use Rattle.comp_mutator.specs.Locks.{Journals}
use Rattle.comp_mutator.specs.Passes.{seen}
use Rattle.comp_mutator.specs.Pass.{Pass}
use Rattle.comp_mutator.specs.Fields.{IsFieldOf, KnowsFieldOn, LacksField}
use Rattle.comp_mutator.specs.Reads.{FieldRefused, SeesFull}
use Rattle.comp_mutator.specs.Writes.{DataRefused, ReferenceRefused}
use Rattle.comp_mutator.specs.Allocations.{own_page, AllocationRefused, AskedRefused, IsLowestPage}
use Rattle.comp_mutator.specs.Refusal.{Refusal}
use Rattle.comp_mutator.specs.Refusal.TheVariants.{Null, NotAStart, NoSuchField, NotInEdition, ObjectTooLarge, OutOfPages, Busy, JournalFull, OutOfMemory}
use Rattle.comp_trace.specs.Acting.{Refuses}
use Rattle.comp_trace.specs.LineBuilds.{kind_if}
use Rattle.comp_trace.specs.declared.text.line.Action.{Action}
use Rattle.comp_trace.specs.declared.text.line.Action.TheVariants.{Root, Load, Get, Store, Put, New, Nil, Immediate}
use Rattle.comp_trace.specs.Bytes.{IsOfRun}
use Rattle.comp_trace.specs.LineCauses.{journals_at, AreOfRuns, HasCause, HasFieldCause, HasNewCause, IsFilled, IsOwnOf, LiesOn}
use Rattle.comp_trace.specs.Runs.{Moment}

module _ (u : Setup) (moment : Moment) (m : ℕ) (old new : Pass) (began : IsOfRun u moment m old) (ended : IsOfRun u moment m new) where
  same : seen new ≡ journals_at moment
  same = λ i p. ended.knows p i

  filled : (p : ℕ) → SeesFull new p → IsFilled moment p
  filled p h = ap length (sym (ended.knows p)) ∙ h

  unfilled : (p : ℕ) → (SeesFull new p → ⊥) → IsFilled moment p → ⊥
  unfilled p h full = h (ap length (ended.knows p) ∙ full)

  lies : (kind : Kind) (object field p : ℕ) → KnowsFieldOn u new kind object field p → LiesOn u moment kind object field p
  lies kind object field p h = (h.word_address, subst (λ (js : Journals). IsFieldOf u js kind object field h.word_address) same h.field_of, h.page_is)

  field_cause : (kind : Kind) (object field : ℕ) (refusal : Refusal) → FieldRefused u old new kind object field refusal → HasFieldCause u moment kind object field refusal
  field_cause kind object field NoSuchField h = subst (λ (js : Journals). LacksField u js kind object field) same h.1
  field_cause kind object field (JournalFull p) h = absurd h
  field_cause kind object field OutOfMemory h = (h.0, inl (h.1, λ there. h.2.0 (inl (began.built h.0 there))))
  field_cause kind object field Null h = tt
  field_cause kind object field (NotAStart a) h = tt
  field_cause kind object field NotInEdition h = tt
  field_cause kind object field ObjectTooLarge h = tt
  field_cause kind object field OutOfPages h = tt
  field_cause kind object field (Busy p) h = tt

  data_cause : (kind : Kind) (object field : ℕ) (refusal : Refusal) → DataRefused u old new kind object field refusal → HasFieldCause u moment kind object field refusal
  data_cause kind object field refusal (inl h) = field_cause kind object field refusal h
  data_cause kind object field (JournalFull p) (inr h) = (lies kind object field p h.1, filled p h.2)
  data_cause kind object field OutOfMemory (inr h) = (h.0, inr (lies kind object field h.0 h.2, unfilled h.0 h.3))
  data_cause kind object field NoSuchField (inr h) = absurd h
  data_cause kind object field Null (inr h) = absurd h
  data_cause kind object field (NotAStart a) (inr h) = absurd h
  data_cause kind object field NotInEdition (inr h) = absurd h
  data_cause kind object field ObjectTooLarge (inr h) = absurd h
  data_cause kind object field OutOfPages (inr h) = absurd h
  data_cause kind object field (Busy p) (inr h) = absurd h

  reference_cause : (kind : Kind) (object field value : ℕ) (refusal : Refusal) → ReferenceRefused u old new kind object field value refusal → HasFieldCause u moment kind object field refusal
  reference_cause kind object field value refusal (inl h) = data_cause kind object field refusal h.0
  reference_cause kind object field value (NotAStart a) (inr h) = tt
  reference_cause kind object field value (JournalFull p) (inr h) = absurd h
  reference_cause kind object field value OutOfMemory (inr h) = absurd h
  reference_cause kind object field value NoSuchField (inr h) = absurd h
  reference_cause kind object field value Null (inr h) = absurd h
  reference_cause kind object field value NotInEdition (inr h) = absurd h
  reference_cause kind object field value ObjectTooLarge (inr h) = absurd h
  reference_cause kind object field value OutOfPages (inr h) = absurd h
  reference_cause kind object field value (Busy p) (inr h) = absurd h

  owned : (size p : ℕ) → IsLowestPage u old size p → IsOwnOf u m p
  owned size p h = (h.0, h.2 ∙ ap (λ (k : ℕ). own_page u k h.0) began.numbered)

  new_cause : (size : ℕ) (refusal : Refusal) → AllocationRefused u old new size refusal → HasNewCause u moment m refusal
  new_cause size NoSuchField h = absurd h
  new_cause size (JournalFull p) h = (owned size p h.0, filled p h.1)
  new_cause size OutOfMemory h = (h.0, owned size h.0 h.1, ⊎_elim (λ wants. inl (λ there. wants.0 (inl (began.built h.0 there)))) (λ full. inr (unfilled h.0 full)) h.2)
  new_cause size Null h = tt
  new_cause size (NotAStart a) h = tt
  new_cause size NotInEdition h = tt
  new_cause size ObjectTooLarge h = tt
  new_cause size OutOfPages h = tt
  new_cause size (Busy p) h = tt

  asked_cause : (asked : Option Head) (refusal : Refusal) → AskedRefused u old new asked refusal → HasNewCause u moment m refusal
  asked_cause None refusal h = subst (HasNewCause u moment m) (sym h.0) tt
  asked_cause (Some header) refusal h = new_cause (size_of header) refusal h

  line_cause : (action : Action) (registers : List ℕ) (refusal : Refusal) → Refuses u action registers old new refusal → HasCause u moment m action registers refusal
  line_cause (Root to root) registers refusal h = h
  line_cause (Load weak to object field) registers refusal h = field_cause (kind_if weak) (slice_index registers object) field refusal h
  line_cause (Get object field) registers refusal h = field_cause kinds.Data (slice_index registers object) field refusal h
  line_cause (Store weak object field value) registers refusal h = reference_cause (kind_if weak) (slice_index registers object) field (slice_index registers value) refusal h
  line_cause (Put object field value) registers refusal h = data_cause kinds.Data (slice_index registers object) field refusal h
  line_cause (New to refs weak data_words tag) registers refusal h = asked_cause (header_with u.heap.edition refs weak data_words tag) refusal h
  line_cause (Nil to) registers refusal h = h
  line_cause (Immediate to payload) registers refusal h = h.1

pub of_runs : AreOfRuns
of_runs u first lines shown number refusal cut = line_cause u cut.end cut.line.mutator cut.old cut.new cut.began cut.ended cut.line.action (cut.end.registers cut.line.mutator) refusal cut.refuses
