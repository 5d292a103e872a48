use Rattle.std.proofs.Common.{ℕ, List, length, inl, inr, refl, subst, sym}
use Rattle.std.proofs.lemmas.Result.{err_from_is_err_and}
use Rattle.heap_layout.specs.Heap.{Heap}
use Rattle.comp_trace.specs.Replays.{Hold}
use Rattle.comp_trace.specs.RootsNamed.{words_named}
use Rattle.comp_trace.specs.Traces.{lines_of}
use Rattle.commands.specs.TraceTasks.{IsFollowed}
use Rattle.commands.specs.Following.{given_by, IsNextHeap, IsUnmarked}
use Rattle.commands.specs.Outcome.{Outcome}
use Rattle.commands.proofs.CycledHeaps.{cycled, not_followed}
use Rattle.commands.proofs.Halted.{halted_run}
use Rattle.commands.proofs.cycling.cycle_heap.Goals as goal

-- The lines ran, and the next heap was accepted.
pub returns-in_ok-heap-in-Ok : goal.returns-in_ok-heap-in-Ok
returns-in_ok-heap-in-Ok g c =
    let ran = c.in-Ok.ran in
    let next = c.in_ok-heap-in-Ok.heap in
    let given = given_by c.args.handed in (
      inl (
        ran.shown.items,
        next,
        cycled c.args.mutators c.args.fresh (lines_of c.args.trace.now) given c.args.heap ran.shown.items ran.finished ran.registers.items next c.in-Ok.ensures.registers
            (subst (λ (h : Heap). (now : ℕ → List ℕ) → Hold (length ran.registers.items) ran.registers.items now → IsNextHeap h ran.finished given.marks (words_named now given.roots) next) c.in-Ok.ensures.plan
            (subst (λ (l : List (List ℕ)). (now : ℕ → List ℕ) → Hold (length l) l now → IsNextHeap ran.plan.value ran.finished given.marks (words_named now given.roots) next) c.deref.ensures.value c.in_ok-heap-in-Ok.ensures.next)),
        refl,
      ),
      tt,
    )

-- Or it was refused.
pub returns-in_err-heap-in-Ok : goal.returns-in_err-heap-in-Ok
returns-in_err-heap-in-Ok g c =
    let p = err_from_is_err_and c.from_residual.result c.from_residual.ensures.1 in
    let ran = c.in-Ok.ran in
    let refusal = c.in_err-heap-in-Ok.field-0.0 in
    let given = given_by c.args.handed in
    rw (p.1, p.2) (not_followed c.args.mutators c.args.fresh (lines_of c.args.trace.now) given c.args.heap ran.shown.items ran.finished ran.registers.items c.in-Ok.ensures.registers refusal
    (subst (λ (h : Heap). (now : ℕ → List ℕ) → Hold (length ran.registers.items) ran.registers.items now → IsUnmarked h ran.finished given.marks (words_named now given.roots) refusal) c.in-Ok.ensures.plan
    (subst (λ (l : List (List ℕ)). (now : ℕ → List ℕ) → Hold (length l) l now → IsUnmarked ran.plan.value ran.finished given.marks (words_named now given.roots) refusal) c.deref.ensures.value c.in_err-heap-in-Ok.ensures.refused)))

-- Or the run was halted.
pub returns-in-Err : goal.returns-in-Err
returns-in-Err g c =
    let lines = lines_of c.args.trace.now in (
      subst (λ (outcome : Outcome). IsFollowed c.args.mutators c.args.fresh lines (given_by c.args.handed) c.args.heap outcome) (sym c.halted.ensures.outcome)
          (inr (inr (halted_run c.args.mutators c.args.fresh lines c.args.heap c.in-Err.halt c.in-Err.ensures.halted))),
      c.halted.ensures.lawful,
    )
