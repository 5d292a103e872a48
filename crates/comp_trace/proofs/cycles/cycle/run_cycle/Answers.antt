use Rattle.std.proofs.Common.{subst, sym, ◌∙◌}
use Rattle.heap_layout.specs.Heap.{Heap}
use Rattle.comp_cycles.specs.Ends.{IsEndOf}
use Rattle.comp_trace.specs.Traces.{lines_of}
use Rattle.comp_trace.specs.Heaps.{HasRunOver, HasRunWith}
use Rattle.comp_trace.proofs.LastRuns.{halted_over, last_run, last_run_with}
use Rattle.comp_trace.proofs.cycles.cycle.run_cycle.Goals as goal

pub returns-in-Ok-run_over-clause-run : goal.returns-in-Ok-run_over-clause-run
returns-in-Ok-run_over-clause-run g c =
    let m = c.args.mutators in
    let fresh = c.args.fresh in
    let lines = lines_of c.args.trace.now in
    let run = c.in-Ok-run_over.ran in
    last_run m fresh lines run.shown.items c.args.heap run.finished c.requires.fresh
    (subst (λ (heap : Heap). HasRunOver m fresh lines run.shown.items heap run.finished) (c.in-Ok-clone.ensures.cases ∙ c.in-Ok-new.ensures.ok ∙ c.in-Ok.ensures) c.in-Ok-run_over.ensures.run)

pub returns-in-Ok-run_over-clause-registers : goal.returns-in-Ok-run_over-clause-registers
returns-in-Ok-run_over-clause-registers g c =
    let m = c.args.mutators in
    let fresh = c.args.fresh in
    let lines = lines_of c.args.trace.now in
    let run = c.in-Ok-run_over.ran in
    last_run_with m fresh lines run.shown.items c.args.heap run.finished run.registers.items c.requires.fresh
    (subst (λ (heap : Heap). HasRunWith m fresh lines run.shown.items heap run.finished run.registers.items) (c.in-Ok-clone.ensures.cases ∙ c.in-Ok-new.ensures.ok ∙ c.in-Ok.ensures) c.in-Ok-run_over.ensures.registers)

pub returns-in-Ok-run_over-clause-end : goal.returns-in-Ok-run_over-clause-end
returns-in-Ok-run_over-clause-end g c =
    let m = c.args.mutators in
    let fresh = c.args.fresh in
    let lines = lines_of c.args.trace.now in
    let run = c.in-Ok-run_over.ran in
    let last = last_run m fresh lines run.shown.items c.in-Ok-new.plan.value run.finished c.requires.fresh
    (subst (λ (heap : Heap). HasRunOver m fresh lines run.shown.items heap run.finished) c.in-Ok-clone.ensures.cases c.in-Ok-run_over.ensures.run) in
    subst (λ (heap : Heap). IsEndOf heap run.finished) (sym c.in-Ok-run_over.ensures.plan) last.end

pub returns-in-Ok-run_over-clause-over : goal.returns-in-Ok-run_over-clause-over
returns-in-Ok-run_over-clause-over g c =
    let run = c.in-Ok-run_over.ran in
    subst (λ (heap : Heap). HasRunOver c.args.mutators c.args.fresh (lines_of c.args.trace.now) run.shown.items heap run.finished) (c.in-Ok-clone.ensures.cases ∙ c.in-Ok-new.ensures.ok ∙ c.in-Ok.ensures) c.in-Ok-run_over.ensures.run

pub returns-in-Err-clause-halted : goal.returns-in-Err-clause-halted
returns-in-Err-clause-halted g c =
    halted_over c.args.mutators c.args.fresh (lines_of c.args.trace.now) _ c.args.heap (c.in-Ok-clone.ensures.cases ∙ c.in-Ok-new.ensures.ok ∙ c.in-Ok.ensures) c.in-Err.halt c.in-Err.ensures.halted
