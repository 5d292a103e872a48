-- What a halted run comes to, and a sweep.
use Rattle.std.proofs.Common.{◌≡◌, ◌∙◌, ℕ, List, [], ap₂, inl, inr, refl, subst, sym}
use Rattle.heap_layout.specs.Heap.{live, Heap}
use Rattle.page_plan.specs.Sliding.{live_words}
use Rattle.comp_mutator.specs.Finishes.{builds_in, live_of}
use Rattle.comp_mutator.specs.Finished.{Finished}
use Rattle.comp_mutator.specs.MadeWords.{allocated}
use Rattle.comp_dump.specs.DumpEncoding.{dump_bytes}
use Rattle.comp_dump.specs.Dumped.{Dumped}
use Rattle.comp_trace.specs.Bytes.{flipped, CutsShort}
use Rattle.comp_trace.specs.CycleRuns.{IsCycleHaltOf}
use Rattle.comp_trace.specs.declared.replays.running.Halt.{Halt}
use Rattle.comp_trace.specs.declared.replays.running.Halt.TheVariants.{Cut, Unflipped, Unfinished, Unplanned}
use Rattle.comp_trace.specs.declared.text.line.Line.{Line}
use Rattle.comp_trace.specs.declared.steps.shown.Shown.{Shown}
use Rattle.command_io.specs.declared.refusal.Output.TheVariants as outputs
use Rattle.command_io.proofs.Makings.{same_parts}
use Rattle.commands.specs.TaskAnswers.{halted_outcome}
use Rattle.commands.specs.HeapTasks.{live_line, swept_dump, IsCompacted}
use Rattle.commands.specs.Leftovers.{IsSweptHeap}
use Rattle.commands.specs.Outcome.{makes}
use Rattle.commands.specs.TraceTasks.{dumped_of, dumps, run_lines, IsHaltedRun}

-- a run by one thread that was halted
pub halted_run : (mutators fresh : ℕ) (lines : List Line) (heap : Heap) (halt : Halt) → IsCycleHaltOf mutators fresh lines heap halt → IsHaltedRun (CutsShort (flipped heap mutators fresh)) lines (halted_outcome halt)
halted_run mutators fresh lines heap Unplanned h = inr (inr refl)
halted_run mutators fresh lines heap Unflipped h = inr (inl refl)
halted_run mutators fresh lines heap (Cut stopped) h = inl (stopped.fault, stopped.shown.items, h, refl)
halted_run mutators fresh lines heap (Unfinished shown) h = inr (inl refl)

-- a sweep
pub swept_run : (workers : ℕ) (heap : Heap) (f : Finished) → IsSweptHeap workers f heap
    → IsCompacted workers heap (dumps workers 0 [] f)
swept_run workers heap f h =
    let same : dumped_of workers 0 f ≡ swept_dump workers heap (builds_in f) = same_parts _ _ workers workers 0 0 _ _ _ _ _ _ _ _ h.edition refl refl h.roots h.pages refl h.total in
    inl (builds_in f, h.builds, ap₂ (λ (dump : Dumped) (total : ℕ). makes outputs.Dump (dump_bytes dump) (run_lines [] total)) same h.total)
