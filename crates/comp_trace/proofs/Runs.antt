-- Runs of several cycles, one cycle more.
use Rattle.std.proofs.Common.{◌≡◌, ℕ, List, [], ◌∷◌, ◌++◌, Option, length, refl}
use Rattle.heap_layout.specs.Heap.{Heap, IsClosed}
use Rattle.comp_cycles.specs.declared.finished.Finished.{Finished}
use Rattle.comp_trace.specs.declared.steps.shown.Shown.{Shown}
use Rattle.comp_trace.specs.declared.text.line.Line.{Line}
use Rattle.comp_cycles.specs.Cycles.{Cycle, heap_after, numbers_left, story, Follow, IsOneLife, IsWriting}
use Rattle.comp_cycles.specs.Stable.{StableHeap, lived}
use Rattle.comp_cycles.specs.NumberedHeaps.{first_numbers, first_numbered, IsNumberedAs}
use Rattle.comp_cycles.specs.Merged.{CanMerge}
use Rattle.comp_cycles.specs.Ends.{cycle_of, setup_in, IsEndOf}
use Rattle.comp_cycles.proofs.Chapters.{rising}
use Rattle.comp_trace.specs.CycleRuns.{last_heap, AreRuns, CyclesRan, Further, IsLastRun, IsRun}
use Rattle.comp_trace.specs.Markings.{IsMarkedCycle}

module _ (mutators fresh : ℕ) where
  -- the marks that are handed in later do not change a run
  pub marked : (lines : List Line) (shown : List Shown) (heap : Heap) (f : Finished) (marks : List ℕ) → IsRun mutators fresh lines shown heap (cycle_of heap f []) → IsRun mutators fresh lines shown heap (cycle_of heap f marks)
  marked lines shown heap f marks r = record { end = r.end; runs = r.runs; shown_is = r.shown_is; setup_is = r.setup_is; entries_are = r.entries_are }

  pub runs_more : (cs : List Cycle) (heap : Heap) (lines : List Line) (rest : List Further) (shown : List (List Shown)) (f : Finished) → AreRuns mutators fresh heap lines rest shown cs f
      → (given : Option (List ℕ)) (marks : List ℕ) (more : List Line) (values : List Shown) (left : Finished) → IsMarkedCycle given (last_heap heap cs) (cycle_of (last_heap heap cs) f marks)
      → IsLastRun mutators fresh more values (heap_after (cycle_of (last_heap heap cs) f marks)) left
      → AreRuns mutators fresh heap lines (rest ++ (given, more) ∷ []) (shown ++ values ∷ []) (cs ++ cycle_of (last_heap heap cs) f marks ∷ []) left
  runs_more [] heap lines [] (s ∷ []) f h given marks more values left ended last = (record { run = marked lines s heap f marks h.run; cycle = ended.cycle; marked = ended.marked; roots_are = refl }, last)
  runs_more [] heap lines [] [] f h given marks more values left ended last = absurd h
  runs_more [] heap lines [] (s ∷ t ∷ shown) f h given marks more values left ended last = absurd h
  runs_more (c ∷ cs) heap lines [] [] f h given marks more values left ended last = absurd h
  runs_more (c ∷ cs) heap lines [] (s ∷ []) f h given marks more values left ended last = absurd h
  runs_more (c ∷ cs) heap lines [] (s ∷ t ∷ shown) f h given marks more values left ended last = absurd h
  runs_more [] heap lines (r ∷ rest) [] f h given marks more values left ended last = absurd h
  runs_more [] heap lines (r ∷ rest) (s ∷ shown) f h given marks more values left ended last = absurd h
  runs_more (c ∷ cs) heap lines (r ∷ rest) [] f h given marks more values left ended last = absurd h
  runs_more (c ∷ cs) heap lines (r ∷ rest) (s ∷ shown) f h given marks more values left ended last = (h.0, runs_more cs (heap_after c) r.1 rest shown f h.1 given marks more values left ended last)

  pub follow_of : (cs : List Cycle) (heap : Heap) (lines : List Line) (rest : List Further) (shown : List (List Shown)) (f : Finished) → AreRuns mutators fresh heap lines rest shown cs f → Follow heap cs (last_heap heap cs)
  follow_of [] heap lines rest shown f h = refl
  follow_of (c ∷ cs) heap lines [] [] f h = absurd h
  follow_of (c ∷ cs) heap lines [] (s ∷ []) f h = absurd h
  follow_of (c ∷ cs) heap lines [] (s ∷ t ∷ shown) f h = absurd h
  follow_of (c ∷ cs) heap lines (r ∷ rest) [] f h = absurd h
  follow_of (c ∷ cs) heap lines (r ∷ rest) (s ∷ shown) f h = (h.0.cycle, follow_of cs (heap_after c) r.1 rest shown f h.1)

  pub end_of : (cs : List Cycle) (heap : Heap) (lines : List Line) (rest : List Further) (shown : List (List Shown)) (f : Finished) → AreRuns mutators fresh heap lines rest shown cs f → IsEndOf (last_heap heap cs) f
  end_of [] heap lines [] (s ∷ []) f h = h.end
  end_of [] heap lines [] [] f h = absurd h
  end_of [] heap lines [] (s ∷ t ∷ shown) f h = absurd h
  end_of [] heap lines (r ∷ rest) [] f h = absurd h
  end_of [] heap lines (r ∷ rest) (s ∷ shown) f h = absurd h
  end_of (c ∷ cs) heap lines [] [] f h = absurd h
  end_of (c ∷ cs) heap lines [] (s ∷ []) f h = absurd h
  end_of (c ∷ cs) heap lines [] (s ∷ t ∷ shown) f h = absurd h
  end_of (c ∷ cs) heap lines (r ∷ rest) [] f h = absurd h
  end_of (c ∷ cs) heap lines (r ∷ rest) (s ∷ shown) f h = end_of cs (heap_after c) r.1 rest shown f h.1

  abbrev pub have_run : ((heap last : Heap) (cycles : List Cycle) → IsClosed heap → Follow heap cycles last → IsOneLife heap cycles last)
      → ((c : Cycle) (numbers : List ℕ) (stable : StableHeap) → IsClosed c.setup.heap → CanMerge c.setup c.journals → IsNumberedAs c.setup.heap numbers stable → IsWriting c numbers stable) → (heap : Heap) → IsClosed heap
      → (lines : List Line) (rest : List Further) (shown : List (List Shown)) (cs : List Cycle) (f : Finished) → AreRuns mutators fresh heap lines rest shown cs f → CyclesRan mutators fresh heap lines rest shown f
  have_run life writes heap closed lines rest shown cs f h =
      let follow = follow_of cs heap lines rest shown f h in
      let whole = life heap (last_heap heap cs) cs closed follow in
      let end = end_of cs heap lines rest shown f h in
      record {
        cycles = cs;
        runs = h;
        follow = follow;
        life = whole;
        last = λ apart. writes (cycle_of (last_heap heap cs) f []) (numbers_left cs (first_numbers heap) (length heap.marks)) (lived (first_numbered heap) (story cs (first_numbers heap) (length heap.marks)))
            end.closed end.finished.history.merges (whole apart).result;
        rising = rising (setup_in (last_heap heap cs) f) end.closed refl;
      }

  -- the last heap, one cycle later
  pub last_more : (cs : List Cycle) (heap : Heap) (c : Cycle) → last_heap heap (cs ++ c ∷ []) ≡ heap_after c
  last_more [] heap c = refl
  last_more (x ∷ cs) heap c = last_more cs (heap_after x) c
