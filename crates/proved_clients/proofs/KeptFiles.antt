-- What a run over files in memory left there.
use Rattle.std.proofs.Common.{◌≡◌, ◌≢◌, ℕ, Bool, true, false, List, Option, None, Some, Result, Ok, Err, IfErr, OnOk, ap, inl, inr, refl, subst, sym}
use Rattle.std.specs.Bool.{MatchBool}
use Rattle.heap_layout.specs.Heap.{Heap}
use Rattle.comp_dump.specs.DumpEncoding.{dump_bytes}
use Rattle.comp_trace.specs.Bytes.{flipped, CutsShort}
use Rattle.comp_trace.specs.declared.text.line.Line.{Line}
use Rattle.comp_trace.specs.declared.text.fault.TraceFault.{TraceFault}
use Rattle.comp_trace.specs.declared.steps.shown.Shown.{Shown}
use Rattle.command_line.specs.declared.words.Task.{Task}
use Rattle.command_line.specs.declared.words.Task.TheVariants.{Replay, Race}
use Rattle.command_line.specs.declared.words.TraceRun.{TraceRun}
use Rattle.command_io.specs.Disk.{names_failure, IsOfMaking, IsUnkept, LeavesCounted}
use Rattle.command_io.specs.Memory.{memory_disk, HasPut, WrittenIsThere}
use Rattle.command_io.specs.declared.memory.MemoryFiles.{MemoryFiles}
use Rattle.command_io.specs.declared.refusal.Output.{Output}
use Rattle.command_io.specs.declared.refusal.Output.TheVariants as outputs
use Rattle.command_io.specs.declared.refusal.CommandRefusal.{CommandRefusal}
use Rattle.command_io.specs.declared.refusal.CommandRefusal.TheVariants.{CannotPrint}
use Rattle.commands.specs.Outcome.{makes, stops, IsKept, IsUndelivered, Outcome}
use Rattle.commands.specs.TraceTasks.{InterruptsRace, IsHaltedRun}
use Rattle.commands.specs.Tasks.{DoesTask, IsOutcomeOf, RefusesTask}
use Rattle.proved_clients.specs.KeptInMemory.{KeepsRaced, KeepsReplayed, KeptOrNot}

-- beginning a file in memory changes none
same_files : (from to : MemoryFiles) → IsUnkept (memory_disk from) from to → to ≡ from
same_files from to (inl same) = same
same_files from to (inr same) = same

-- nor does a call that fails
same_counted : (from to : MemoryFiles) (refusal : CommandRefusal) → LeavesCounted (memory_disk from) from to refusal → to ≡ from
same_counted from to refusal h = go (names_failure refusal) h
  where
    go : (named : Bool) → MatchBool named (to ≡ from) (to ≡ from) → to ≡ from
    go true same = same
    go false same = same

-- nor a file that is not made
same_making : (from to : MemoryFiles) (output : Output) (path bytes : List ℕ) (refusal : CommandRefusal) → IsOfMaking (memory_disk from) output path bytes from to refusal → to ≡ from
same_making from to output path bytes refusal (inl (is, bars, counted)) = counted
same_making from to output path bytes refusal (inr (inl (is, begun))) = begun.counted
same_making from to output path bytes refusal (inr (inr (is, unkept))) = same_files from to unkept

-- after a refusal for another cause than the output the files are as they were
undelivered : (from to : MemoryFiles) (path : List ℕ) (outcome : Outcome) (old new : ℕ) (before after : Option (List ℕ)) (refusal : CommandRefusal)
    → IsUndelivered (memory_disk from) path outcome from to old new before after refusal → refusal ≢ CannotPrint → to ≡ from
undelivered from to path outcome old new before after refusal (inl h) other = h.files
undelivered from to path outcome old new before after refusal (inr (inl h)) other = absurd (other h.refused)
undelivered from to path outcome old new before after refusal (inr (inr h)) other = same_making from to h.made.0 path h.made.1 refusal h.cause

pub unchanged : (from to : MemoryFiles) (old new : ℕ) (before after : Option (List ℕ)) (task : Task) (result : Result (Unit {0}) CommandRefusal)
    → IfErr result (RefusesTask (memory_disk from) from to old new before after task) → IfErr result (λ refusal. refusal ≢ CannotPrint → to ≡ from)
unchanged from to old new before after task (Ok _) h = tt
unchanged from to old new before after task (Err refusal) (inl h) = λ other. same_counted from to refusal h.files
unchanged from to old new before after task (Err refusal) (inr (outcome, comes, h)) = undelivered from to _ outcome old new before after refusal h

-- an outcome that is a refusal is not delivered
pub not_halted : (cuts : List Line → List Shown → TraceFault → Type 0) (lines : List Line) (outcome : Outcome) → IsHaltedRun cuts lines outcome → outcome.refusal ≡ None → ⊥
not_halted cuts lines outcome (inl (fault, shown, cut, is)) none = let e = ap (λ (o : Outcome). o.refusal) is in cc
not_halted cuts lines outcome (inr (inl is)) none = let e = ap (λ (o : Outcome). o.refusal) is in cc
not_halted cuts lines outcome (inr (inr is)) none = let e = ap (λ (o : Outcome). o.refusal) is in cc

-- and it makes no file
not_made : (cuts : List Line → List Shown → TraceFault → Type 0) (lines : List Line) (outcome : Outcome) → IsHaltedRun cuts lines outcome → outcome.made ≡ None
not_made cuts lines outcome (inl (fault, shown, cut, is)) = ap (λ (o : Outcome). o.made) is
not_made cuts lines outcome (inr (inl is)) = ap (λ (o : Outcome). o.made) is
not_made cuts lines outcome (inr (inr is)) = ap (λ (o : Outcome). o.made) is

module _ (there : WrittenIsThere) (from to : MemoryFiles) (asked : TraceRun) where
  -- what is kept of a dump that is made
  put : (bytes text : List ℕ) (outcome : Outcome) → outcome ≡ makes outputs.Dump bytes text → IsKept (memory_disk from) asked.dump.now outcome.made from to → HasPut from asked.dump.now bytes to
  put bytes text outcome is kept = there from to outputs.Dump asked.dump.now bytes (subst (λ (o : Outcome). IsKept (memory_disk from) asked.dump.now o.made from to) is kept)

  -- what is kept of a run
  replayed : (outcome : Outcome) → IsOutcomeOf (memory_disk from) (Replay asked) outcome → IsKept (memory_disk from) asked.dump.now outcome.made from to → KeptOrNot (KeepsReplayed from asked to) from to
  replayed outcome (heap, image, (lines, trace, inl (shown, f, ran, is))) kept = inl (heap, image, (lines, trace, (shown, f, ran, put _ _ outcome is kept)))
  replayed outcome (heap, image, (lines, trace, inr halted)) kept = inr (subst (λ made. IsKept (memory_disk from) asked.dump.now made from to) (not_made (CutsShort (flipped heap asked.mutators asked.fresh)) lines outcome halted) kept)

  raced : (outcome : Outcome) → IsOutcomeOf (memory_disk from) (Race asked) outcome → IsKept (memory_disk from) asked.dump.now outcome.made from to → KeptOrNot (KeepsRaced from asked to) from to
  raced outcome (heap, image, (lines, trace, inl (shown, f, race, is))) kept = inl (heap, image, (lines, trace, (shown, f, race, put _ _ outcome is kept)))
  raced outcome (heap, image, (lines, trace, inr halted)) kept = inr (subst (λ made. IsKept (memory_disk from) asked.dump.now made from to) (not_made (InterruptsRace asked.mutators asked.fresh heap) lines outcome halted) kept)

  module _ (old new : ℕ) (before after : Option (List ℕ)) where
    pub replayed_ok : (result : Result (Unit {0}) CommandRefusal) → OnOk result (DoesTask (memory_disk from) from to before after (Replay asked)) → OnOk result (KeepsReplayed from asked to)
    replayed_ok (Ok _) (outcome, (heap, image, (lines, trace, inl (shown, f, ran, is))), done) = (heap, image, (lines, trace, (shown, f, ran, put _ _ outcome is done.kept)))
    replayed_ok (Ok _) (outcome, (heap, image, (lines, trace, inr halted)), done) = absurd (not_halted (CutsShort (flipped heap asked.mutators asked.fresh)) lines outcome halted done.unrefused)
    replayed_ok (Err refusal) h = tt

    pub raced_ok : (result : Result (Unit {0}) CommandRefusal) → OnOk result (DoesTask (memory_disk from) from to before after (Race asked)) → OnOk result (KeepsRaced from asked to)
    raced_ok (Ok _) (outcome, (heap, image, (lines, trace, inl (shown, f, race, is))), done) = (heap, image, (lines, trace, (shown, f, race, put _ _ outcome is done.kept)))
    raced_ok (Ok _) (outcome, (heap, image, (lines, trace, inr halted)), done) = absurd (not_halted (InterruptsRace asked.mutators asked.fresh heap) lines outcome halted done.unrefused)
    raced_ok (Err refusal) h = tt

    -- whatever the cause is, the dump is kept or nothing changed
    kept_or_not : (task : Task) (P : Type 0) → ((outcome : Outcome) → IsOutcomeOf (memory_disk from) task outcome → IsKept (memory_disk from) asked.dump.now outcome.made from to → KeptOrNot P from to)
        → (refusal : CommandRefusal) → (outcome : Outcome) → IsOutcomeOf (memory_disk from) task outcome → IsUndelivered (memory_disk from) asked.dump.now outcome from to old new before after refusal → KeptOrNot P from to
    kept_or_not task P f refusal outcome comes (inl h) = inr h.files
    kept_or_not task P f refusal outcome comes (inr (inl h)) = f outcome comes h.kept
    kept_or_not task P f refusal outcome comes (inr (inr h)) = inr (same_making from to h.made.0 asked.dump.now h.made.1 refusal h.cause)

    unprinted_replay : (refusal : CommandRefusal) → RefusesTask (memory_disk from) from to old new before after (Replay asked) refusal → KeptOrNot (KeepsReplayed from asked to) from to
    unprinted_replay refusal (inl h) = inr (same_counted from to refusal h.files)
    unprinted_replay refusal (inr (outcome, comes, h)) = kept_or_not (Replay asked) (KeepsReplayed from asked to) replayed refusal outcome comes h

    unprinted_race : (refusal : CommandRefusal) → RefusesTask (memory_disk from) from to old new before after (Race asked) refusal → KeptOrNot (KeepsRaced from asked to) from to
    unprinted_race refusal (inl h) = inr (same_counted from to refusal h.files)
    unprinted_race refusal (inr (outcome, comes, h)) = kept_or_not (Race asked) (KeepsRaced from asked to) raced refusal outcome comes h

    pub replay_unprinted : (result : Result (Unit {0}) CommandRefusal) → IfErr result (RefusesTask (memory_disk from) from to old new before after (Replay asked)) → result ≡ Err CannotPrint → KeptOrNot (KeepsReplayed from asked to) from to
    replay_unprinted result h is = unprinted_replay CannotPrint (subst (λ (r : Result (Unit {0}) CommandRefusal). IfErr r (RefusesTask (memory_disk from) from to old new before after (Replay asked))) is h)

    pub race_unprinted : (result : Result (Unit {0}) CommandRefusal) → IfErr result (RefusesTask (memory_disk from) from to old new before after (Race asked)) → result ≡ Err CannotPrint → KeptOrNot (KeepsRaced from asked to) from to
    race_unprinted result h is = unprinted_race CannotPrint (subst (λ (r : Result (Unit {0}) CommandRefusal). IfErr r (RefusesTask (memory_disk from) from to old new before after (Race asked))) is h)
