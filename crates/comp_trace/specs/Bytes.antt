-- What a replay shows, given the bytes of an image and the text of a trace.
use Rattle.std.specs.Prelude.{◌≡◌, ◌⊎◌, ℕ, ◌+◌, true, List, [], Ok, Err, length, take}
use mathlib.Core.Option.{some}
use lib.ListN.{get_elem?}
use Rattle.heap_layout.specs.Encoding.{encoding, AreCounted}
use Rattle.heap_layout.specs.Heap.{live, Heap, IsStored}
use Rattle.page_plan.specs.Sliding.{pages}
use Rattle.comp_mutator.specs.Locks.{Journals}
use Rattle.comp_mutator.specs.Passes.{did, number_of, seen, view_of, HasSeenBuilt, KnowsFresh}
use Rattle.comp_mutator.specs.Setup.{Setup}
use Rattle.comp_mutator.specs.Pass.{Pass}
use Rattle.comp_mutator.specs.Calls.{Grows, KnowsToo}
use Rattle.comp_mutator.specs.Lists.{Each}
use Rattle.comp_mutator.specs.Lawful.{HasHead}
use Rattle.comp_mutator.specs.Merged.{written_by}
use Rattle.comp_mutator.specs.Refusal.{Refusal}
use Rattle.comp_mutator.specs.Refusal.TheVariants.{Busy}
use Rattle.comp_trace.specs.Acting.{Refuses}
use Rattle.comp_trace.specs.LineBuilds.{is_built}
use Rattle.comp_trace.specs.Grammar.{trace_of, IsReadAs}
use Rattle.comp_trace.specs.Runs.{beginning, Moment, Runs}
use Rattle.comp_trace.specs.Lines.{with_entries}
use Rattle.comp_trace.specs.declared.text.fault.TraceFault.{TraceFault}
use Rattle.comp_trace.specs.declared.text.fault.TraceFault.TheVariants.{BadLine, NoSuchMutator, NoSuchRegister, NumberTooLarge, NoSuchRoot, Refused, OutOfMemory}
use Rattle.comp_trace.specs.declared.text.line.Line.{Line}
use Rattle.comp_trace.specs.declared.steps.shown.Shown.{Shown}

-- journals without entries
abbrev pub no_entries : Journals
no_entries p = []

-- The text is a trace, and its run from journals without entries shows these values.
pub record Shows (u : Setup) (text : List ℕ) (shown : List Shown) : Type 0 where
  pub lines : List Line
  pub text_is : trace_of u.mutators (length u.heap.roots) text ≡ Ok lines
  pub end : Moment
  pub runs : Runs u no_entries 1 lines beginning end
  pub shown_is : shown ≡ end.shown

-- This is a pass of mutator k on this heap, at this moment of a run from journals without entries. It did exactly what
-- the run says of it. It has seen exactly what the run added, and each page built that the run built.
pub record IsOfRun (u : Setup) (moment : Moment) (k : ℕ) (pass : Pass) : Type 0 where
  pub numbered : number_of pass ≡ k
  pub about : (view_of pass).about ≡ u
  pub did : did pass ≡ written_by k moment.added
  pub knows : (p : ℕ) → seen pass p ≡ with_entries no_entries moment.added p
  pub built : (p : ℕ) → is_built moment.built p ≡ true → HasSeenBuilt pass p

-- The run of these lines from journals without entries shows these values before the line of this number. The call of
-- that line was refused. `first` are passes before the run, of mutators that took part.
pub record IsCutShort (u : Setup) (first : List Pass) (lines : List Line) (shown : List Shown) (number : ℕ) (refusal : Refusal) : Type 0 where
  pub count : ℕ
  pub number_is : number ≡ count + 1
  pub line : Line
  pub there : get_elem? lines count ≡ some line
  pub end : Moment
  pub runs : Runs u no_entries 1 (take count lines) beginning end
  pub shown_is : shown ≡ end.shown
  -- the pass of the line's mutator as the call began, and as it ended: it wrote nothing, saw nothing new, and forgot
  -- nothing
  pub old : Pass
  pub new : Pass
  pub began : IsOfRun u end line.mutator old
  pub ended : IsOfRun u end line.mutator new
  pub grows : Grows old new
  -- as the call began it knew each object that was made, and what each of the mutators knew before the run
  pub starts : (p offset : ℕ) → HasHead (with_entries no_entries end.added p) offset → KnowsFresh old p offset
  pub met : Each first (λ (pass : Pass). KnowsToo pass old)
  pub refuses : Refuses u line.action (end.registers line.mutator) old new refusal
  -- no page was busy: all mutators are in hand
  pub waited : (p : ℕ) → refusal ≡ Busy p → ⊥
  -- the passes of all mutators after the line, in the order of their numbers
  pub row : List Pass
  pub crew : length row ≡ u.mutators
  pub last : (k : ℕ) (pass : Pass) → get_elem? row k ≡ some pass → IsOfRun u end k pass
  pub ends : (pass : Pass) → get_elem? row line.mutator ≡ some pass → Grows new pass

-- the run of these lines stopped: memory ran out before the first line, or a line was refused; `first` are passes of
-- its mutators before the run
abbrev pub CutsShortAfter : Setup → List Pass → List Line → List Shown → TraceFault → Type 0
CutsShortAfter u first lines shown (Refused number refusal) = IsCutShort u first lines shown number refusal
CutsShortAfter u first lines shown OutOfMemory = shown ≡ []
CutsShortAfter u first lines shown (BadLine number) = ⊥
CutsShortAfter u first lines shown (NoSuchMutator number) = ⊥
CutsShortAfter u first lines shown (NoSuchRegister number) = ⊥
CutsShortAfter u first lines shown (NumberTooLarge number) = ⊥
CutsShortAfter u first lines shown (NoSuchRoot number) = ⊥

-- the same, if no mutator knew anything before the run
abbrev pub CutsShort : Setup → List Line → List Shown → TraceFault → Type 0
CutsShort u lines shown fault = CutsShortAfter u [] lines shown fault

-- all these lines were run from journals without entries, and showed these values
pub record RunsThrough (u : Setup) (lines : List Line) (shown : List Shown) : Type 0 where
  pub end : Moment
  pub runs : Runs u no_entries 1 lines beginning end
  pub shown_is : shown ≡ end.shown

-- The text is a trace, and this fault cut its run short. `first` are the passes of the mutators before the run.
pub record Interrupts (u : Setup) (first : List Pass) (text : List ℕ) (shown : List Shown) (fault : TraceFault) : Type 0 where
  pub lines : List Line
  pub text_is : trace_of u.mutators (length u.heap.roots) text ≡ Ok lines
  pub cut : CutsShortAfter u first lines shown fault

-- the text is not a trace, by this fault, or memory ran out for reading it
abbrev pub IsNoTrace : Setup → List ℕ → TraceFault → Type 0
IsNoTrace u text fault = IsReadAs {A = List Line} (λ lines. lines) (Err fault) (trace_of u.mutators (length u.heap.roots) text)

-- why a text shows no more than these values; `first` are the passes of the mutators before the run
abbrev pub StopsShowing : Setup → List Pass → List ℕ → List Shown → TraceFault → Type 0
StopsShowing u first text shown fault = ((shown ≡ []) × IsNoTrace u text fault) ⊎ Interrupts u first text shown fault

-- the setup of a flipped heap
abbrev pub flipped : Heap → ℕ → ℕ → Setup
flipped heap mutators fresh = record { heap = heap; compacted = pages (live heap); fresh = fresh; mutators = mutators }

-- The image is that of a heap, and the run of the trace over that heap shows these values.
pub record ReplayShows (mutators fresh : ℕ) (image text : List ℕ) (shown : List Shown) : Type 0 where
  pub heap : Heap
  pub stored : IsStored heap
  pub counted : AreCounted heap
  pub image_is : image ≡ encoding heap
  pub shows : Shows (flipped heap mutators fresh) text shown

-- the same bytes show the same values
abbrev pub ShowOnce : Type 0
ShowOnce = (mutators fresh : ℕ) (image text : List ℕ) (shown other : List Shown) → ReplayShows mutators fresh image text shown → ReplayShows mutators fresh image text other → shown ≡ other
