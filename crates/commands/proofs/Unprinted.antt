-- Only a failed call of the output is refused with `CannotPrint`.
use Rattle.std.proofs.Common.{◌≡◌, ◌∙◌, ℕ, Bool, false, List, Option, option_map, Some, None, Result, Ok, Err, IfErr, OnOk, ap, inl, inr, refl, subst, sym}
use Rattle.heap_layout.specs.Heap.{Heap}
use Rattle.comp_dump.specs.Dumped.{Dumped}
use Rattle.comp_trace.specs.Bytes.{flipped, CutsShort}
use Rattle.comp_trace.specs.declared.steps.shown.Shown.{Shown}
use Rattle.comp_trace.specs.declared.text.fault.TraceFault.{TraceFault}
use Rattle.comp_trace.specs.declared.text.line.Line.{Line}
use Rattle.moved_heaps.specs.Moved as moving
use Rattle.moved_heaps.specs.declared.fault.MovedFault.{MovedFault}
use Rattle.moved_heaps.specs.declared.fault.MovedFault.TheVariants as moved
use Rattle.command_line.specs.declared.words.Task.{Task}
use Rattle.command_line.specs.declared.words.Task.TheVariants as tasks
use Rattle.command_line.specs.declared.next.NextMarks.{NextMarks}
use Rattle.command_line.specs.declared.next.NextMarks.TheVariants as asking
use Rattle.command_io.specs.Disk.{Disk, IsOfMaking, RefusesFile, unwritten}
use Rattle.command_io.specs.Images.{RefusesImageParts}
use Rattle.command_io.specs.declared.refusal.Input.TheVariants as inputs
use Rattle.command_io.specs.Printing.{CountsPrint}
use Rattle.command_io.specs.declared.refusal.Output.{Output}
use Rattle.command_io.specs.declared.refusal.Output.TheVariants as outputs
use Rattle.command_io.specs.declared.refusal.CommandRefusal.{CommandRefusal}
use Rattle.command_io.specs.declared.refusal.CommandRefusal.TheVariants.{Layout, Mutator, Sweep, Trace, Dump, Audit, Moved, Survey, CannotWrite, CannotOpen, CannotCreate, ReadFailed, CannotPrint, NoSuchWord, BadMarks, OutOfMemory, BadRoots}
use Rattle.commands.specs.HeapTasks.{refusal_of, IsAudited, IsCollected, IsCompacted, IsJudged, IsMapped, IsMarked, IsOfSweeping, IsPlanned, IsUncollectable, IsUnmarkable, IsWordOf}
use Rattle.commands.specs.TraceTasks.{InterruptsRace, IsFollowed, IsHaltedRun, IsRaced, IsReplayed}
use Rattle.commands.specs.Inputs.{Given, RefusesAuditAt, RefusesGivenAt, RefusesHeapAt, RefusesMapAt, RefusesTraceAt, SomeMap}
use Rattle.commands.specs.Outcome.{makes, prints, stops, IsUndelivered, Outcome}
use Rattle.commands.specs.Tasks.{path_of, IsOutcomeOf, RefusesInputs, RefusesTask}

-- a refusal for another cause than the output counts no failed call of the output
pub uncounted_by : (old new : ℕ) (refusal : CommandRefusal) → new ≡ old → (refusal ≡ CannotPrint → ⊥) → CountsPrint {T = Unit {0}} old new (Err refusal)
uncounted_by old new (Layout fault) same other = same
uncounted_by old new (Mutator refused) same other = same
uncounted_by old new (Sweep fault) same other = same
uncounted_by old new (Trace fault) same other = same
uncounted_by old new (Dump fault) same other = same
uncounted_by old new (Audit fault) same other = same
uncounted_by old new (Moved fault) same other = same
uncounted_by old new (Survey fault) same other = same
uncounted_by old new (CannotWrite output) same other = same
uncounted_by old new (CannotOpen input) same other = same
uncounted_by old new (CannotCreate output) same other = same
uncounted_by old new (ReadFailed input) same other = same
uncounted_by old new CannotPrint same other = absurd (other refl)
uncounted_by old new (NoSuchWord index) same other = same
uncounted_by old new (BadMarks line) same other = same
uncounted_by old new (BadRoots line) same other = same
uncounted_by old new OutOfMemory same other = same

-- ---- no outcome is that refusal

module _ (outcome : Outcome) (is : outcome.refusal ≡ Some CannotPrint) where
  not_prints : (text : List ℕ) → outcome ≡ prints text → ⊥
  not_prints text same = let e = sym is ∙ ap (λ (o : Outcome). o.refusal) same in cc

  not_makes : (output : Output) (bytes text : List ℕ) → outcome ≡ makes output bytes text → ⊥
  not_makes output bytes text same = let e = sym is ∙ ap (λ (o : Outcome). o.refusal) same in cc

  stops_by : (text : List ℕ) (refusal : CommandRefusal) → outcome ≡ stops text refusal → refusal ≡ CannotPrint
  stops_by text refusal same = let e = sym is ∙ ap (λ (o : Outcome). o.refusal) same in cc

  -- a refusal of which P holds, and of this one it does not
  stops_never : (P : CommandRefusal → Type 0) → (P CannotPrint → ⊥) → (text : List ℕ) (refusal : CommandRefusal) → P refusal → outcome ≡ stops text refusal → ⊥
  stops_never P never text refusal h same = never (subst P (stops_by text refusal same) h)

  other_memory : (text : List ℕ) → outcome ≡ stops text OutOfMemory → ⊥
  other_memory text same = let e = stops_by text OutOfMemory same in cc

  planned : (heap : Heap) → IsPlanned heap outcome → ⊥
  planned heap (inl same) = not_prints _ same
  planned heap (inr same) = other_memory _ same

  word : (index : ℕ) (heap : Heap) → IsWordOf index heap outcome → ⊥
  word index heap (inl (lt, same)) = not_prints _ same
  word index heap (inr (inl (le, same))) = let e = stops_by _ _ same in cc
  word index heap (inr (inr same)) = other_memory _ same

  halted : (cuts : List Line → List Shown → TraceFault → Type 0) (lines : List Line) → IsHaltedRun cuts lines outcome → ⊥
  halted cuts lines (inl (fault, shown, cut, same)) = let e = stops_by _ _ same in cc
  halted cuts lines (inr (inl same)) = let e = stops_by _ _ same in cc
  halted cuts lines (inr (inr same)) = other_memory _ same

  replayed : (mutators fresh : ℕ) (lines : List Line) (heap : Heap) → IsReplayed mutators fresh lines heap outcome → ⊥
  replayed mutators fresh lines heap (inl (shown, f, ran, same)) = not_makes _ _ _ same
  replayed mutators fresh lines heap (inr h) = halted (CutsShort (flipped heap mutators fresh)) lines h

  raced : (mutators fresh : ℕ) (lines : List Line) (heap : Heap) → IsRaced mutators fresh lines heap outcome → ⊥
  raced mutators fresh lines heap (inl (shown, f, ran, same)) = not_makes _ _ _ same
  raced mutators fresh lines heap (inr h) = halted (InterruptsRace mutators fresh heap) lines h

  compacted : (workers : ℕ) (heap : Heap) → IsCompacted workers heap outcome → ⊥
  compacted workers heap (inl (builds, are, same)) = not_makes _ _ _ same
  compacted workers heap (inr (refusal, why, same)) = stops_never (IsOfSweeping heap) (λ h. h) _ refusal why same

  audited : (whole explain : Bool) (heap : Heap) (dump : Dumped) → IsAudited whole explain heap dump outcome → ⊥
  audited whole explain heap dump (inl (judged, same)) = not_prints _ same
  audited whole explain heap dump (inr (inl (fault, judged, plain, same))) = let e = stops_by _ _ same in cc
  audited whole explain heap dump (inr (inr (inl (fault, explanation, judged, explains, told, same)))) = let e = stops_by _ _ same in cc
  audited whole explain heap dump (inr (inr (inr same))) = other_memory _ same

  followed : (mutators fresh : ℕ) (lines : List Line) (given : Given) (heap : Heap) → IsFollowed mutators fresh lines given heap outcome → ⊥
  followed mutators fresh lines given heap (inl (shown, next, cycled, same)) = not_makes _ _ _ same
  followed mutators fresh lines given heap (inr (inl (fault, unfollowed, same))) = let e = stops_by _ _ same in cc
  followed mutators fresh lines given heap (inr (inr h)) = halted (CutsShort (flipped heap mutators fresh)) lines h

  marked : (parts : Heap) → IsMarked parts outcome → ⊥
  marked parts (inl (heap, made, same)) = not_makes _ _ _ same
  marked parts (inr (refusal, why, same)) = stops_never (IsUnmarkable parts) (λ h. h) _ refusal why same

  collects : (parts : Heap) → IsCollected parts outcome → ⊥
  collects parts (inl (next, made, same)) = not_makes _ _ _ same
  collects parts (inr (refusal, why, same)) = stops_never (IsUncollectable parts.edition parts.words parts.roots) (λ h. h) _ refusal why same

  other_moved : (fault : MovedFault) → refusal_of fault ≡ CannotPrint → ⊥
  other_moved moved.OutOfMemory e = cc
  other_moved (moved.WrongHead part) e = cc
  other_moved (moved.PlaceOutside k) e = cc
  other_moved (moved.Overlap k l) e = cc
  other_moved (moved.WrongRoot i) e = cc
  other_moved (moved.WrongWord k offset) e = cc

  judged : (heap : Heap) (now : moving.Moved) → IsJudged heap now outcome → ⊥
  judged heap now (inl (lawful, same)) = not_prints _ same
  judged heap now (inr (inl (fault, first, same))) = other_moved fault (stops_by _ _ same)
  judged heap now (inr (inr same)) = other_memory _ same

  mapped : (heap : Heap) (dump : Option Dumped) → IsMapped heap dump outcome → ⊥
  mapped heap dump (inl (picture, whole, shows, same)) = not_makes _ _ _ same
  mapped heap dump (inr same) = other_memory _ same

  of_map : {F W : Type 0} (disk : Disk F W) (large : Bool) (image : List ℕ) (dump : Option (List ℕ)) → SomeMap disk large image dump (λ heap drawn. IsMapped heap drawn outcome) → ⊥
  of_map disk large image None (heap, at, h) = mapped heap None h
  of_map disk large image (Some path) (heap, at, (dump, there, h)) = mapped heap (Some dump) h

  pub no_outcome : {F W : Type 0} (disk : Disk F W) (task : Task) → IsOutcomeOf disk task outcome → ⊥
  no_outcome disk (tasks.Plan image large) (heap, at, h) = planned heap h
  no_outcome disk (tasks.Word image index large) (heap, at, h) = word index heap h
  no_outcome disk (tasks.Replay asked) (heap, at, (lines, trace, h)) = replayed asked.mutators asked.fresh lines heap h
  no_outcome disk (tasks.Race asked) (heap, at, (lines, trace, h)) = raced asked.mutators asked.fresh lines heap h
  no_outcome disk (tasks.Compact image dump workers large) (heap, at, h) = compacted workers heap h
  no_outcome disk (tasks.Audit asked) (heap, at, (dump, there, h)) = audited asked.whole asked.explain heap dump h
  no_outcome disk (tasks.Next asked) (heap, at, (lines, trace, (given, listed, h))) = followed asked.mutators asked.fresh lines given heap h
  no_outcome disk (tasks.Mark image new workers large) (parts, at, h) = marked parts h
  no_outcome disk (tasks.Collect image new workers large) (parts, at, h) = collects parts h
  no_outcome disk (tasks.Moved image path large) (heap, at, (now, there, h)) = judged heap now h
  no_outcome disk (tasks.Map asked) h = of_map disk asked.large asked.image.now (option_map (λ path. path.now) asked.dump) h
  no_outcome disk (tasks.Help text) same = not_prints _ same
  no_outcome disk tasks.Version same = not_prints _ same
  no_outcome disk tasks.VersionLong (bytes, at, inl (text, told, same)) = not_prints _ same
  no_outcome disk tasks.VersionLong (bytes, at, inr same) = other_memory _ same

-- ---- nor is it why files were not read

no_heap : {F W : Type 0} (disk : Disk F W) (large : Bool) (image : List ℕ) → RefusesHeapAt disk large image CannotPrint → ⊥
no_heap disk large image (inl h) = h
no_heap disk large image (inr (known, there, h)) = h

no_trace : {F W : Type 0} (disk : Disk F W) (large : Bool) (image trace : List ℕ) (mutators : ℕ) → RefusesTraceAt disk large image trace mutators CannotPrint → ⊥
no_trace disk large image trace mutators (inl h) = no_heap disk large image h
no_trace disk large image trace mutators (inr (heap, at, inl h)) = h
no_trace disk large image trace mutators (inr (heap, at, inr (known, there, h))) = h

no_dump : {F W : Type 0} (disk : Disk F W) (words large : Bool) (image path : List ℕ) → RefusesAuditAt disk words large image path CannotPrint → ⊥
no_dump disk words large image path (inl h) = no_heap disk large image h
no_dump disk words large image path (inr (heap, at, inl h)) = h
no_dump disk words large image path (inr (heap, at, inr (known, there, h))) = h

no_given : {F W : Type 0} (disk : Disk F W) (mutators : ℕ) (marks : NextMarks) → RefusesGivenAt disk mutators marks CannotPrint → ⊥
no_given disk mutators (asking.Given path) (inl h) = h
no_given disk mutators (asking.Given path) (inr (known, there, h)) = h
no_given disk mutators asking.Reachable h = h
no_given disk mutators (asking.ReachableFrom path) (inl h) = h
no_given disk mutators (asking.ReachableFrom path) (inr (known, there, h)) = h

no_map : {F W : Type 0} (disk : Disk F W) (large : Bool) (image : List ℕ) (dump : Option (List ℕ)) → RefusesMapAt disk large image dump CannotPrint → ⊥
no_map disk large image None h = no_heap disk large image h
no_map disk large image (Some path) h = no_dump disk false large image path h

no_parts : {F W : Type 0} (disk : Disk F W) (large : Bool) (image : List ℕ) → RefusesFile disk inputs.Image image (RefusesImageParts large) CannotPrint → ⊥
no_parts disk large image (inl h) = h
no_parts disk large image (inr (known, there, h)) = h

pub no_input : {F W : Type 0} (disk : Disk F W) (task : Task) → RefusesInputs disk task CannotPrint → ⊥
no_input disk (tasks.Plan image large) h = no_heap disk large image.now h
no_input disk (tasks.Word image index large) h = no_heap disk large image.now h
no_input disk (tasks.Replay asked) h = no_trace disk asked.large asked.image.now asked.trace.now asked.mutators h
no_input disk (tasks.Race asked) h = no_trace disk asked.large asked.image.now asked.trace.now asked.mutators h
no_input disk (tasks.Compact image dump workers large) h = no_heap disk large image.now h
no_input disk (tasks.Audit asked) h = no_dump disk asked.words asked.large asked.image.now asked.dump.now h
no_input disk (tasks.Next asked) (inl h) = no_trace disk asked.large asked.image.now asked.trace.now asked.mutators h
no_input disk (tasks.Next asked) (inr (heap, at, (lines, there, h))) = no_given disk asked.mutators asked.marks h
no_input disk (tasks.Mark image new workers large) h = no_parts disk large image.now h
no_input disk (tasks.Collect image new workers large) h = no_parts disk large image.now h
no_input disk (tasks.Moved image path large) (inl h) = no_heap disk large image.now h
no_input disk (tasks.Moved image path large) (inr (heap, at, inl h)) = h
no_input disk (tasks.Moved image path large) (inr (heap, at, inr (known, there, h))) = h
no_input disk (tasks.Map asked) h = no_map disk asked.large asked.image.now (option_map (λ path. path.now) asked.dump) h
no_input disk (tasks.Help text) h = h
no_input disk tasks.Version h = h
no_input disk tasks.VersionLong (inl h) = h
no_input disk tasks.VersionLong (inr (known, there, h)) = h

-- nor why a file was not made
no_unwritten : (output : Output) → CannotPrint ≡ unwritten output → ⊥
no_unwritten outputs.Dump e = cc
no_unwritten outputs.New e = cc
no_unwritten outputs.Map e = cc

no_making : {F W : Type 0} (disk : Disk F W) (output : Output) (path bytes : List ℕ) (from to : F) → IsOfMaking disk output path bytes from to CannotPrint → ⊥
no_making disk output path bytes from to (inl (e, bars, counted)) = cc
no_making disk output path bytes from to (inr (inl (e, begun))) = no_unwritten output e
no_making disk output path bytes from to (inr (inr (e, unkept))) = cc

-- so a task is refused with it exactly if one more call of the output failed
pub counted : {F W : Type 0} (disk : Disk F W) (from to : F) (old new : ℕ) (before after : Option (List ℕ)) (task : Task) (refusal : CommandRefusal) → RefusesTask disk from to old new before after task refusal
    → CountsPrint {T = Unit {0}} old new (Err refusal)
counted disk from to old new before after task refusal (inl h) = uncounted_by old new refusal h.calls (λ e. no_input disk task (subst (RefusesInputs disk task) e h.cause))
counted disk from to old new before after task refusal (inr (outcome, comes, inl h)) =
    uncounted_by old new refusal h.calls (λ e. no_outcome outcome (h.refused ∙ ap (λ (r : CommandRefusal). Some r) e) disk task comes)
counted disk from to old new before after task refusal (inr (outcome, comes, inr (inl h))) = subst (λ (r : CommandRefusal). CountsPrint {T = Unit {0}} old new (Err r)) (sym h.refused) h.calls
counted disk from to old new before after task refusal (inr (outcome, comes, inr (inr h))) =
    uncounted_by old new refusal h.calls (λ e. no_making disk h.made.0 _ h.made.1 from to (subst (IsOfMaking disk h.made.0 _ h.made.1 from to) e h.cause))

pub counted_result : {F W : Type 0} (disk : Disk F W) (path : List ℕ) (task : Task) (outcome : Outcome) (from to : F) (old new : ℕ) (before after : Option (List ℕ)) (result : Result (Unit {0}) CommandRefusal)
    → path ≡ path_of task → IsOutcomeOf disk task outcome → OnOk result (new ≡ old) → IfErr result (IsUndelivered disk path outcome from to old new before after) → CountsPrint old new result
counted_result disk path task outcome from to old new before after (Ok _) is comes same h = same
counted_result disk path task outcome from to old new before after (Err refusal) is comes same h =
    counted disk from to old new before after task refusal (inr (outcome, comes, subst (λ (p : List ℕ). IsUndelivered disk p outcome from to old new before after refusal) is h))
