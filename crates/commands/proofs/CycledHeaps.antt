-- A heap over which a trace was run, and the next heap.
use Rattle.std.proofs.Common.{◌≡◌, ◌∙◌, ℕ, List, [], None, Option, Some, ap, arith, inl, inr, length, map, refl, subst}
use Rattle.heap_layout.specs.Heap.{Heap}
use Rattle.comp_mutator.specs.Ends.{cycle_of}
use Rattle.comp_mutator.specs.Finished.{Finished}
use Rattle.comp_trace.specs.CycleRuns.{IsLastRun, IsLastRunWith, IsRun}
use Rattle.comp_trace.specs.Replays.{Hold}
use Rattle.comp_trace.specs.declared.text.roots.NewRoot.{NewRoot}
use Rattle.comp_trace.specs.RootsNamed.{word_named, words_named}
use Rattle.comp_trace.specs.declared.steps.shown.Shown.{Shown}
use Rattle.comp_trace.specs.declared.text.line.Line.{Line}
use Rattle.command_io.specs.declared.refusal.CommandRefusal.{CommandRefusal}
use Rattle.command_io.specs.declared.refusal.CommandRefusal.TheVariants.{Layout, OutOfMemory}
use Rattle.commands.specs.TraceTasks.{IsCycledHeap, IsFollowed}
use Rattle.commands.specs.Following.{cycle_by, IsNextHeap, IsUnmarked}
use Rattle.commands.specs.Inputs.{Given}
use Rattle.commands.specs.Outcome.{stops}

-- the registers at the end of a run hold what was handed out
held : (mutators fresh : ℕ) (lines : List Line) (shown : List Shown) (heap : Heap) (f : Finished) (registers : List (List ℕ)) → (run : IsLastRunWith mutators fresh lines shown heap f registers)
    → Hold (length registers) registers run.last.run.end.registers
held mutators fresh lines shown heap f registers run = λ m lt. run.registers_are.hold m (omega (arith, lt, run.registers_are.count))

module _ (mutators fresh : ℕ) (lines : List Line) (given : Given) (heap : Heap) where
  -- neither the marks nor the roots that are handed in later change a run
  rooted : (shown : List Shown) (f : Finished) (roots : Option (List ℕ)) (marks : List ℕ) → IsRun mutators fresh lines shown heap (cycle_of heap f []) → IsRun mutators fresh lines shown heap (cycle_by heap f roots marks)
  rooted shown f roots marks r = record { end = r.end; runs = r.runs; shown_is = r.shown_is; setup_is = r.setup_is; entries_are = r.entries_are }

  -- the lines ran, and the next heap was accepted
  pub cycled : (shown : List Shown) (f : Finished) (registers : List (List ℕ)) (next : Heap) → IsLastRunWith mutators fresh lines shown heap f registers
      → ((now : ℕ → List ℕ) → Hold (length registers) registers now → IsNextHeap heap f given.marks (words_named now given.roots) next) → IsCycledHeap mutators fresh lines shown given heap next
  unfolding rooted
  cycled shown f registers next ran made =
      let run = ran.last.run in
      let words = words_named run.end.registers given.roots in
      let h = made run.end.registers (held mutators fresh lines shown heap f registers ran) in
      record {
        cycle = cycle_by heap f words next.marks;
        part = record { run = rooted shown f words next.marks run; cycle = h.ended.cycle; marked = h.ended.marked; roots_are = refl };
        chapter = h.chapter;
        keeps = h.keeps;
        next_is = h.next_is;
        stored = h.stored;
        accepted = h.accepted;
      }

  -- the lines ran, and the next heap was refused, with the words that the roots name
  unfollowed : (values : List Shown) (f : Finished) → (run : IsLastRun mutators fresh lines values heap f) → (refusal : CommandRefusal)
      → IsUnmarked heap f given.marks (words_named run.run.end.registers given.roots) refusal → IsFollowed mutators fresh lines given heap (stops [] refusal)
  unfollowed values f run (Layout fault) h = inr (inl (fault, record { shown = values; left = f; run = run; refused = h }, refl))
  unfollowed values f run OutOfMemory h = inr (inr (inr (inr refl)))
  unfollowed values f run _ h = absurd h

  -- the same, with the registers that were handed out
  pub not_followed : (values : List Shown) (f : Finished) (registers : List (List ℕ)) → IsLastRunWith mutators fresh lines values heap f registers → (refusal : CommandRefusal)
      → ((now : ℕ → List ℕ) → Hold (length registers) registers now → IsUnmarked heap f given.marks (words_named now given.roots) refusal) → IsFollowed mutators fresh lines given heap (stops [] refusal)
  not_followed values f registers ran refusal made =
      unfollowed values f ran.last refusal (made ran.last.run.end.registers (held mutators fresh lines values heap f registers ran))

-- the words that were handed on are those that the roots name
pub named_by : (n : ℕ) (registers : List (List ℕ)) (words handed : List ℕ) (listed roots : List NewRoot) → ((now : ℕ → List ℕ) → Hold n registers now → words ≡ map (word_named now) listed)
    → listed ≡ roots → handed ≡ words → (now : ℕ → List ℕ) → Hold n registers now → handed ≡ map (word_named now) roots
named_by n registers words handed listed roots named same is now hold = is ∙ named now hold ∙ ap (map (word_named now)) same

module _ (heap : Heap) (f : Finished) (n : ℕ) (registers : List (List ℕ)) (handed : List ℕ) (roots : List NewRoot) (named : (now : ℕ → List ℕ) → Hold n registers now → handed ≡ map (word_named now) roots) where
  -- so the heap that follows them follows the roots
  pub next_named : (next : Heap) → IsNextHeap heap f None (Some handed) next → (now : ℕ → List ℕ) → Hold n registers now → IsNextHeap heap f None (words_named now (Some roots)) next
  next_named next h now hold = subst (λ (ws : List ℕ). IsNextHeap heap f None (Some ws) next) (named now hold) h

  -- and what is refused for them is refused for the roots
  pub refused_named : (refusal : CommandRefusal) → IsUnmarked heap f None (Some handed) refusal → (now : ℕ → List ℕ) → Hold n registers now → IsUnmarked heap f None (words_named now (Some roots)) refusal
  refused_named refusal h now hold = subst (λ (ws : List ℕ). IsUnmarked heap f None (Some ws) refusal) (named now hold) h
