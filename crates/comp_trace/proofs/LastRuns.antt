-- A heap over which a trace was run is the last of several cycles.
use Rattle.std.proofs.Common.{◌≡◌, ℕ, ◌-◌, ◌≤◌, List, length, sym, ap, subst, ◌∙◌, arith}
use Rattle.std.proofs.lemmas.List.{length-map}
use Rattle.heap_layout.proofs.Bounds.{fresh_pages_least}
use Rattle.heap_layout.specs.Heap.{live, Heap}
use Rattle.page_plan.specs.Sliding as sliding
use Rattle.comp_cycles.specs.Passes.{builds_of}
use Rattle.comp_cycles.specs.Setup.{Setup}
use Rattle.comp_cycles.specs.Merged.{history}
use Rattle.comp_cycles.specs.Ends.{setup_in}
use Rattle.comp_cycles.specs.Finishes.{builds_in, journals_of, pages_of, IsFinished}
use Rattle.comp_cycles.specs.declared.finished.Finished.{Finished}
use Rattle.comp_trace.specs.declared.steps.shown.Shown.{Shown}
use Rattle.comp_trace.specs.declared.text.line.Line.{Line}
use Rattle.comp_trace.specs.Bytes.{flipped, CutsShort, RunsThrough}
use Rattle.comp_trace.specs.Heaps.{HasRunOver, HasRunWith, IsHaltOf}
use Rattle.comp_trace.specs.CycleRuns.{IsCycleHaltOf, IsLastRun, IsLastRunWith}
use Rattle.comp_trace.specs.declared.replays.running.Halt.{Halt}
use Rattle.comp_trace.specs.declared.replays.running.Halt.TheVariants.{Cut, Unflipped, Unfinished, Unplanned}

abbrev setup_with : Heap → ℕ → ℕ → Setup
setup_with heap fresh mutators = record { heap = heap; compacted = sliding.pages (live heap); fresh = fresh; mutators = mutators }

pub last_run : (mutators fresh : ℕ) (lines : List Line) (shown : List Shown) (heap : Heap) (f : Finished) → fresh ≤ 4096 → HasRunOver mutators fresh lines shown heap f
    → IsLastRun mutators fresh lines shown heap f
last_run mutators fresh lines shown heap f few h =
    let slots = h.finished.pages.count in
    let fresh_is : length (pages_of f) - sliding.pages (live heap) ≡ fresh = omega (arith, slots) in
    let many : length (builds_in f) ≡ mutators = ap length h.finished.pages.builds ∙ length-map h.row builds_of ∙ h.crew in
    let same : setup_in heap f ≡ flipped heap mutators fresh = ap (λ (n : ℕ). setup_with heap n (length (builds_in f))) fresh_is ∙ ap (setup_with heap fresh) many in
    record {
      run = record {
        end = h.end;
        runs = h.runs;
        shown_is = h.shown_is;
        setup_is = same;
        entries_are = ap (λ (u : Setup). history u (journals_of f)) same ∙ h.history;
      };
      end = record {
        row = h.row;
        finished = subst (λ (u : Setup). IsFinished u h.row f) (sym same) h.finished;
        closed = h.closed;
        few_fresh = omega (arith, slots, few, fresh_pages_least heap.edition);
      };
    }

-- and its registers hold the same words
pub last_run_with : (mutators fresh : ℕ) (lines : List Line) (shown : List Shown) (heap : Heap) (f : Finished) (registers : List (List ℕ)) → fresh ≤ 4096 → HasRunWith mutators fresh lines shown heap f registers
    → IsLastRunWith mutators fresh lines shown heap f registers
unfolding last_run
last_run_with mutators fresh lines shown heap f registers few h = record { last = last_run mutators fresh lines shown heap f few h.run; registers_are = h.registers_are }

-- a run over the planned heap that was halted halts the cycle
pub halted_over : (mutators fresh : ℕ) (lines : List Line) (planned heap : Heap) → planned ≡ heap → (halt : Halt) → IsHaltOf mutators fresh lines planned halt → IsCycleHaltOf mutators fresh lines heap halt
halted_over mutators fresh lines planned heap same Unplanned h = absurd h
halted_over mutators fresh lines planned heap same Unflipped h = tt
halted_over mutators fresh lines planned heap same (Cut stopped) h = subst (λ (x : Heap). CutsShort (flipped x mutators fresh) lines stopped.shown.items stopped.fault) same h
halted_over mutators fresh lines planned heap same (Unfinished shown) h = subst (λ (x : Heap). RunsThrough (flipped x mutators fresh) lines shown.items) same h
