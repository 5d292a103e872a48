use Rattle.std.proofs.Common.{◌≡◌, ◌+◌, ◌++◌, ◌∷◌, [], List, Vec, Global, length, map, take, take_all, sym, ap, ◌∙◌, subst, arith}
use Rattle.std.proofs.lemmas.List.{map-append}
use Rattle.heap_layout.specs.Heap.{Heap}
use Rattle.comp_trace.specs.Traces.{lines_of, mutators_of, roots_of}
use Rattle.comp_trace.specs.declared.steps.shown.Shown.{Shown}
use Rattle.comp_cycles.specs.Ends.{cycle_of}
use Rattle.comp_trace.specs.CycleRuns.{last_heap, AreRuns, IsLastRun, IsMarkedNext}
use Rattle.comp_trace.specs.Stops.{further_by, shown_by, values_of, StopsCycles}
use Rattle.comp_trace.proofs.Runs.{have_run}
use Rattle.comp_trace.proofs.Stopping.{goes_on, same_roots, stops_between, stops_first, stops_next}
use Rattle.comp_trace.proofs.cycles.replaying.replay_all.Goals as goal

pub run_cycle-requires-in-loop-c-clause-parsed : goal.run_cycle-requires-in-loop-c-clause-parsed
run_cycle-requires-in-loop-c-clause-parsed g c κs within =
    let i = c.loop-c.invariant in
    let x = c.index-rest-c.result in
    let h = c.requires.rest c.loop-c.c x c.loop-c-test.true in
    let k = c.index-rest-c.is in
    let roots = same_roots c.loop-c.plan.value c.in-Ok-next_heap.heap c.loop-c.finished (g.M.Marks.given x.0) i.end c.in-Ok-next_heap.ensures.next in
    (ap (λ y. mutators_of y.1) k ∙ h.0, ap (λ y. roots_of y.1) k ∙ h.1 ∙ sym (roots ∙ i.roots))

pub returns-in-Err-clause-stopped : goal.returns-in-Err-clause-stopped
returns-in-Err-clause-stopped g c =
    let m = c.args.mutators in
    let fresh = c.args.fresh_pages in
    let heap = c.args.heap in
    let lines = lines_of c.args.first.now in
    let rest = map (further_by g.M.Marks.given) c.args.rest.now in
    let halt = c.in-Err.halt in
    let s = c.stopped.ensures in
    let none : values_of c.in-Ok.shown.items ≡ [] = ap values_of c.in-Ok.ensures.items in
    subst (λ (v : List (List Shown)). StopsCycles m fresh heap lines rest v c.stopped.result.fault) (sym s.shown)
    (subst (λ (l : List (List Shown)). StopsCycles m fresh heap lines rest (l ++ shown_by halt) c.stopped.result.fault) (sym none)
    (subst (StopsCycles m fresh heap lines rest (shown_by halt)) (sym s.fault) (stops_first m fresh heap lines rest halt c.in-Err.ensures.halted)))

pub returns-in-Err-next_heap-clause-stopped : goal.returns-in-Err-next_heap-clause-stopped
returns-in-Err-next_heap-clause-stopped g c =
    let i = c.loop-c.invariant in
    let m = c.args.mutators in
    let fresh = c.args.fresh_pages in
    let heap = c.args.heap in
    let lines = lines_of c.args.first.now in
    let rest = c.args.rest.now in
    let f = c.loop-c.finished in
    let values = values_of c.loop-c.shown.items in
    let ran = have_run m fresh c.one_life.ensures c.one_writing.ensures heap i.closed lines (map (further_by g.M.Marks.given) (take c.loop-c.c rest)) values i.cycles f i.ran in
    stops_between m fresh heap lines (further_by g.M.Marks.given) rest c.loop-c.c c.index-rest-c.result c.loop-c-test.true c.index-rest-c.is values f c.loop-c.plan.value ran i.last c.in-Err-next_heap.fault c.in-Err-next_heap.ensures.refused

pub returns-in-Err-run_cycle-clause-stopped : goal.returns-in-Err-run_cycle-clause-stopped
returns-in-Err-run_cycle-clause-stopped g c =
    let i = c.loop-c.invariant in
    let m = c.args.mutators in
    let fresh = c.args.fresh_pages in
    let heap = c.args.heap in
    let lines = lines_of c.args.first.now in
    let rest = c.args.rest.now in
    let f = c.loop-c.finished in
    let halt = c.in-Err-run_cycle.halt in
    let values = values_of c.loop-c.shown.items in
    let ran = have_run m fresh c.one_life.ensures c.one_writing.ensures heap i.closed lines (map (further_by g.M.Marks.given) (take c.loop-c.c rest)) values i.cycles f i.ran in
    let stops = stops_next m fresh heap lines (further_by g.M.Marks.given) rest c.loop-c.c c.index-rest-c.result c.loop-c-test.true c.index-rest-c.is values f c.loop-c.plan.value ran i.last c.in-Ok-next_heap.heap c.in-Ok-next_heap.ensures.next halt c.in-Err-run_cycle.ensures.halted in
    let s = c.stopped-in-Err-run_cycle.ensures in
    subst (λ (v : List (List Shown)). StopsCycles m fresh heap lines (map (further_by g.M.Marks.given) rest) v c.stopped-in-Err-run_cycle.result.fault) (sym s.shown)
    (subst (StopsCycles m fresh heap lines (map (further_by g.M.Marks.given) rest) (values ++ shown_by halt)) (sym s.fault) stops)

pub loop-c-init : goal.loop-c-init
loop-c-init g c =
    let ran = c.in-Ok-run_cycle.ran in
    let one = c.in-Ok-run_cycle.ensures in
    let room = c.in-Ok.ensures in
    let push = c.push_reserved.ensures in
    let shown : values_of c.push_reserved.new.self.items ≡ ran.shown.items ∷ [] = ap values_of (push.items ∙ ap (λ (l : List (Vec Shown Global)). l ++ ran.shown ∷ []) room.items) in
    record {
      cycles = [];
      ran = subst (λ (v : List (List Shown)). AreRuns c.args.mutators c.args.fresh_pages c.args.heap (lines_of c.args.first.now) [] v [] ran.finished) (sym shown) one.run;
      last = sym one.plan;
      end = one.end;
      flipped = one.flipped;
      closed = one.run.end.closed;
      roots = ap (λ (heap : Heap). length heap.roots) one.plan;
      len = omega (arith, push.len, room.len);
      room = omega (arith, push.capacity, room.capacity);
    }

pub loop-c-preserved : goal.loop-c-preserved
loop-c-preserved g c =
    let i = c.loop-c.invariant in
    let x = c.index-rest-c.result in
    let m = c.args.mutators in
    let fresh = c.args.fresh_pages in
    let heap = c.args.heap in
    let lines = lines_of c.args.first.now in
    let rest = c.args.rest.now in
    let f = c.loop-c.finished in
    let ran = c.in-Ok-run_cycle-2.ran in
    let said = c.in-Ok-run_cycle-2.ensures in
    let values = values_of c.loop-c.shown.items in
    let next : IsMarkedNext (g.M.Marks.given x.0) c.loop-c.plan.value f ran.plan.value = subst (IsMarkedNext (g.M.Marks.given x.0) c.loop-c.plan.value f) (sym said.plan) c.in-Ok-next_heap.ensures.next in
    let run : IsLastRun m fresh (lines_of x.1) ran.shown.items ran.plan.value ran.finished = subst (λ (now : Heap). IsLastRun m fresh (lines_of x.1) ran.shown.items now ran.finished) (sym said.plan) said.run in
    let on = goes_on m fresh heap lines (further_by g.M.Marks.given) rest c.loop-c.c x c.loop-c-test.true c.index-rest-c.is values i.cycles f c.loop-c.plan.value ran.plan.value ran.shown.items ran.finished i.ran i.last next run in
    let push = c.push_reserved-in-Ok-run_cycle-2.ensures in
    let shown : values_of c.push_reserved-in-Ok-run_cycle-2.new.self.items ≡ values ++ ran.shown.items ∷ [] = ap values_of push.items ∙ map-append (λ (v : Vec Shown Global). v.items) c.loop-c.shown.items (ran.shown ∷ []) in
    record {
      cycles = i.cycles ++ cycle_of (last_heap heap i.cycles) f ran.plan.value.marks ∷ [];
      ran = subst (λ (v : List (List Shown)). AreRuns m fresh heap lines (map (further_by g.M.Marks.given) (take (c.loop-c.c + 1) rest)) v (i.cycles ++ cycle_of (last_heap heap i.cycles) f ran.plan.value.marks ∷ []) ran.finished) (sym shown) on.0;
      last = on.1;
      end = said.end;
      flipped = said.flipped;
      closed = i.closed;
      roots = same_roots c.loop-c.plan.value ran.plan.value f (g.M.Marks.given x.0) i.end next ∙ i.roots;
      len = omega (arith, push.len, i.len);
      room = omega (arith, push.capacity, i.room);
    }

pub returns-clause-ran : goal.returns-clause-ran
returns-clause-ran g c =
    let i = c.loop-c.invariant in
    let all : take c.loop-c.c c.args.rest.now ≡ c.args.rest.now = take_all c.loop-c.c c.args.rest.now c.loop-c-test.false in
    have_run c.args.mutators c.args.fresh_pages c.one_life.ensures c.one_writing.ensures c.args.heap i.closed (lines_of c.args.first.now) (map (further_by g.M.Marks.given) c.args.rest.now) (values_of c.loop-c.shown.items) i.cycles c.loop-c.finished
    (subst (λ l. AreRuns c.args.mutators c.args.fresh_pages c.args.heap (lines_of c.args.first.now) (map (further_by g.M.Marks.given) l) (values_of c.loop-c.shown.items) i.cycles c.loop-c.finished) all i.ran)
