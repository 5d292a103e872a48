use Rattle.std.proofs.Common.{◌≡◌, ◌+◌, ◌≤◌, List, length, map, take, vec_len, vec_capacity}
use Rattle.heap_layout.specs.Heap.{IsClosed}
use Rattle.comp_trace.specs.Traces.{lines_of}
use Rattle.comp_cycles.specs.Cycles.{Cycle}
use Rattle.comp_cycles.specs.Ends.{IsEndOf}
use Rattle.comp_cycles.specs.Finishes.{IsOfFlip}
use Rattle.comp_trace.specs.CycleRuns.{last_heap, AreRuns}
use Rattle.comp_trace.specs.Stops.{further_by, values_of}
use Rattle.comp_trace.proofs.cycles.replaying.replay_all.Given as goal

-- the first cycle, and the further ones up to the loop's index, were run
abbrev pub invariant-loop-c : goal.invariant-loop-c
invariant-loop-c g l = record {
  cycles : List Cycle;
  ran : AreRuns l.mutators l.fresh_pages l.fn.heap (lines_of l.first) (map (further_by g.M.Marks.given) (take l.c l.rest)) (values_of l.shown.items) cycles l.finished;
  last : last_heap l.fn.heap cycles ≡ l.plan.value;
  end : IsEndOf l.plan.value l.finished;
  flipped : IsOfFlip l.mutators l.fresh_pages l.finished;
  closed : IsClosed l.fn.heap;
  roots : length l.plan.value.roots ≡ length l.fn.heap.roots;
  len : vec_len l.shown ≡ l.c + 1;
  room : length l.rest + 1 ≤ vec_capacity l.shown;
}
