-- Runs of several cycles: one more, and why there is not one more.
use Rattle.std.proofs.Common.{◌≡◌, ℕ, suc, ◌+◌, ◌<◌, List, [], ◌∷◌, ◌++◌, Option, length, map, take, get_or, refl, sym, ap, ◌∙◌, ⊎_elim, subst, arith, append-nil, ◌⊎◌, inl, inr}
use Rattle.std.specs.List.{take-map}
use Rattle.std.proofs.lemmas.List.{length-map, get_or-map, map-append, take_more}
use Rattle.heap_layout.specs.Heap.{Heap}
use Rattle.comp_cycles.specs.Finishes.{roots_of}
use Rattle.comp_cycles.specs.declared.finished.Finished.{Finished}
use Rattle.comp_trace.specs.declared.steps.shown.Shown.{Shown}
use Rattle.comp_trace.proofs.Callers.{roots_count}
use Rattle.comp_trace.specs.declared.text.line.Line.{Line}
use Rattle.comp_cycles.specs.Cycles.{Cycle, heap_after}
use Rattle.comp_cycles.specs.Ends.{cycle_of, IsEndOf}
use Rattle.comp_cycles.specs.NextHeap.{lowered}
use Rattle.comp_trace.specs.Bytes.{flipped, CutsShort, RunsThrough}
use Rattle.comp_trace.specs.CycleRuns.{last_heap, AreRuns, CyclesRan, Further, IsCycleHaltOf, IsLastRun, IsMarkedNext}
use Rattle.comp_trace.specs.Markings.{IsMarkedCycle, IsUnmarkable}
use Rattle.comp_trace.specs.Stops.{fault_of, none_further, shown_by, Extent, IsCutOff, IsNoNext, IsNotMarked, IsStopped, SomeMarks, StopsAt, StopsCycles}
use Rattle.comp_trace.specs.declared.cycles.fault.CycleFault.{CycleFault}
use Rattle.comp_trace.specs.declared.cycles.fault.CycleFault.TheVariants.{NotMarked, OutOfMemory, Stopped}
use Rattle.comp_trace.specs.declared.replays.running.Halt.{Halt}
use Rattle.comp_trace.specs.declared.replays.running.Halt.TheVariants.{Cut, Unflipped, Unfinished, Unplanned}
use Rattle.comp_trace.proofs.Runs.{runs_more, last_more}

module _ {T : Type 0} (mutators fresh : ℕ) (heap : Heap) (lines : List Line) (pair : T → Further) (rest : List T) (c : ℕ) (x : T) (inside : c < length rest) (is : x ≡ get_or rest c x) where
  more : map pair (take (c + 1) rest) ≡ map pair (take c rest) ++ pair x ∷ []
  more = ap (map pair) (take_more rest c x inside ∙ ap (λ (y : T). take c rest ++ y ∷ []) (sym is)) ∙ map-append pair (take c rest) (x ∷ [])

  pub goes_on : (shown : List (List Shown)) (cs : List Cycle) (f : Finished) (now next : Heap) (values : List Shown) (left : Finished) → AreRuns mutators fresh heap lines (map pair (take c rest)) shown cs f
      → last_heap heap cs ≡ now → IsMarkedNext (pair x).0 now f next → IsLastRun mutators fresh (pair x).1 values next left
      → AreRuns mutators fresh heap lines (map pair (take (c + 1) rest)) (shown ++ values ∷ []) (cs ++ cycle_of (last_heap heap cs) f next.marks ∷ []) left
      × (last_heap heap (cs ++ cycle_of (last_heap heap cs) f next.marks ∷ []) ≡ next)
  goes_on shown cs f now next values left runs at marked run =
      let here : IsMarkedNext (pair x).0 (last_heap heap cs) f next = subst (λ (n : Heap). IsMarkedNext (pair x).0 n f next) (sym at) marked in
      let last = subst (λ (n : Heap). IsLastRun mutators fresh (pair x).1 values n left) here.next_is run in (
        subst (λ (l : List Further). AreRuns mutators fresh heap lines l (shown ++ values ∷ []) (cs ++ cycle_of (last_heap heap cs) f next.marks ∷ []) left) (sym more)
            (runs_more mutators fresh cs heap lines (map pair (take c rest)) shown f runs (pair x).0 next.marks (pair x).1 values left here.ended last),
        last_more mutators fresh cs heap (cycle_of (last_heap heap cs) f next.marks) ∙ sym here.next_is,
      )

  many : c < length (map pair rest)
  many = let n = length-map rest pair in omega (arith, n, inside)

  read : get_or (map pair rest) c none_further ≡ pair x
  read = get_or-map pair rest c x none_further inside ∙ ap pair (sym is)

  abbrev before : (shown : List (List Shown)) (f : Finished) → CyclesRan mutators fresh heap lines (map pair (take c rest)) shown f → CyclesRan mutators fresh heap lines (take c (map pair rest)) shown f
  before shown f h = record { cycles = h.cycles; runs = subst (λ (l : List Further). AreRuns mutators fresh heap lines l shown h.cycles f) (sym (take-map pair c rest)) h.runs; follow = h.follow; life = h.life; last = h.last; rising = h.rising }

  -- the cycle that was marked as the pair says was marked as the one at its index in the list says
  followed : (f : Finished) (now : Heap) (cs : List Cycle) → last_heap heap cs ≡ now → (marks : List ℕ) → IsMarkedCycle (pair x).0 now (cycle_of now f marks)
      → IsMarkedCycle (get_or (map pair rest) c none_further).0 (last_heap heap cs) (cycle_of (last_heap heap cs) f marks)
  followed f now cs at marks h =
      subst (λ (y : Further). IsMarkedCycle y.0 (last_heap heap cs) (cycle_of (last_heap heap cs) f marks)) (sym read)
      (subst (λ (n : Heap). IsMarkedCycle (pair x).0 n (cycle_of n f marks)) (sym at) h)

  cut_off : (shown : List (List Shown)) (f : Finished) (now : Heap) (ran : CyclesRan mutators fresh heap lines (map pair (take c rest)) shown f) → last_heap heap ran.cycles ≡ now
      → (n : ℕ) → (n ≡ c) ⊎ ((n ≡ c + 1) × SomeMarks (pair x).0 now f) → IsCutOff mutators fresh heap lines (map pair rest) shown n
  cut_off shown f now ran at n h = record {
    ended = c;
    further = many;
    left = f;
    ran = before shown f ran;
    next = ⊎_elim (λ (same : n ≡ c). inl same) (λ (later : (n ≡ c + 1) × SomeMarks (pair x).0 now f). inr (later.0, (later.1.0, followed f now ran.cycles at later.1.0 later.1.1))) h;
  }

  -- the next cycle was begun, but has no end
  no_end : (shown : List (List Shown)) (f : Finished) (now : Heap) (ran : CyclesRan mutators fresh heap lines (map pair (take c rest)) shown f) → last_heap heap ran.cycles ≡ now
      → (marks : List ℕ) → IsMarkedCycle (pair x).0 now (cycle_of now f marks) → (last : List Shown) (runs : Extent) → runs (flipped (heap_after (cycle_of now f marks)) mutators fresh) (pair x).1 last → StopsAt mutators fresh heap lines (map pair rest) (shown ++ last ∷ []) (c + 1) runs
  no_end shown f now ran at marks ended last runs h =
      let one : suc c ≡ c + 1 = omega arith in
      let stop : IsStopped mutators fresh heap lines (map pair rest) (shown ++ last ∷ []) c runs = record {
        further = many;
        left = f;
        values = shown;
        last = last;
        shown_is = refl;
        ran = before shown f ran;
        marks = marks;
        ended = followed f now ran.cycles at marks ended;
        lines_run = subst (λ (y : Further). runs (flipped (heap_after (cycle_of (last_heap heap ran.cycles) f marks)) mutators fresh) y.1 last) (sym read)
            (subst (λ (n : Heap). runs (flipped (heap_after (cycle_of n f marks)) mutators fresh) (pair x).1 last) (sym at) h);
      } in
      subst (λ (n : ℕ). StopsAt mutators fresh heap lines (map pair rest) (shown ++ last ∷ []) n runs) one stop

  -- no heap follows cycle c
  pub stops_between : (shown : List (List Shown)) (f : Finished) (now : Heap) (ran : CyclesRan mutators fresh heap lines (map pair (take c rest)) shown f) → last_heap heap ran.cycles ≡ now
      → (fault : CycleFault) → IsNoNext (pair x).0 now f c fault → StopsCycles mutators fresh heap lines (map pair rest) shown fault
  stops_between shown f now ran at (NotMarked n fault) h =
      let stop : IsNotMarked mutators fresh heap lines (map pair rest) shown c fault = record {
        further = many;
        left = f;
        ran = before shown f ran;
        refused = subst (λ (y : Further). IsUnmarkable y.0 (last_heap heap ran.cycles) f fault) (sym read) (subst (λ (n : Heap). IsUnmarkable (pair x).0 n f fault) (sym at) h.1);
      } in
      subst (λ (k : ℕ). IsNotMarked mutators fresh heap lines (map pair rest) shown k fault) (sym h.0) stop
  stops_between shown f now ran at (Stopped n fault) h = absurd h
  stops_between shown f now ran at (OutOfMemory n) h = inr (inl (cut_off shown f now ran at n (inl h)))

  -- memory ran out before the lines of cycle c + 1
  unbegun : (shown : List (List Shown)) (f : Finished) (now : Heap) (ran : CyclesRan mutators fresh heap lines (map pair (take c rest)) shown f) → last_heap heap ran.cycles ≡ now
      → (next : Heap) → IsMarkedNext (pair x).0 now f next → StopsCycles mutators fresh heap lines (map pair rest) (shown ++ []) (OutOfMemory (c + 1))
  unbegun shown f now ran at next marked =
      inr (inl (subst (λ (s : List (List Shown)). IsCutOff mutators fresh heap lines (map pair rest) s (c + 1)) (sym (append-nil shown)) (cut_off shown f now ran at (c + 1) (inr (refl, (next.marks, marked.ended))))))

  -- cycle c + 1 was halted
  pub stops_next : (shown : List (List Shown)) (f : Finished) (now : Heap) (ran : CyclesRan mutators fresh heap lines (map pair (take c rest)) shown f) → last_heap heap ran.cycles ≡ now
      → (next : Heap) → IsMarkedNext (pair x).0 now f next → (halt : Halt) → IsCycleHaltOf mutators fresh (pair x).1 next halt → StopsCycles mutators fresh heap lines (map pair rest) (shown ++ shown_by halt) (fault_of (c + 1) halt)
  stops_next shown f now ran at next marked Unplanned h = unbegun shown f now ran at next marked
  stops_next shown f now ran at next marked Unflipped h = unbegun shown f now ran at next marked
  stops_next shown f now ran at next marked (Cut stopped) h =
      no_end shown f now ran at next.marks marked.ended stopped.shown.items (λ u l s. CutsShort u l s stopped.fault)
      (subst (λ (n : Heap). CutsShort (flipped n mutators fresh) (pair x).1 stopped.shown.items stopped.fault) marked.next_is h)
  stops_next shown f now ran at next marked (Unfinished values) h =
      inr (inr (no_end shown f now ran at next.marks marked.ended values.items RunsThrough (subst (λ (n : Heap). RunsThrough (flipped n mutators fresh) (pair x).1 values.items) marked.next_is h)))

-- the first cycle was halted
pub stops_first : (mutators fresh : ℕ) (heap : Heap) (lines : List Line) (rest : List Further) (halt : Halt) → IsCycleHaltOf mutators fresh lines heap halt → StopsCycles mutators fresh heap lines rest (shown_by halt) (fault_of 0 halt)
stops_first mutators fresh heap lines rest Unplanned h = inl (refl, refl)
stops_first mutators fresh heap lines rest Unflipped h = inl (refl, refl)
stops_first mutators fresh heap lines rest (Cut stopped) h = (stopped.shown.items, refl, h)
stops_first mutators fresh heap lines rest (Unfinished values) h = inr (inr (values.items, refl, h))

-- the number of roots is unchanged
pub same_roots : (now next : Heap) (f : Finished) (given : Option (List ℕ)) → IsEndOf now f → IsMarkedNext given now f next → length next.roots ≡ length now.roots
same_roots now next f given e h =
    ap (λ (n : Heap). length n.roots) h.next_is ∙ length-map (roots_of f) (lowered now.edition) ∙ roots_count now (roots_of f) e.finished.roots
