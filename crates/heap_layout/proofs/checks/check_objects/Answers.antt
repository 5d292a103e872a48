use Rattle.std.proofs.Common.{◌++◌, List, refl, ap, ◌∙◌, arith}
use Rattle.std.proofs.lemmas.Result.{err_from_is_err_and}
use Rattle.heap_layout.specs.Heap.{starts}
use Rattle.heap_layout.specs.Faults.{mark_faults}
use Rattle.heap_layout.specs.declared.fault.LayoutFault.{LayoutFault}
use Rattle.heap_layout.proofs.Marked.{first-reported, first-behind, marks-placed}
use Rattle.heap_layout.proofs.RowMarks.{met-all}
use Rattle.heap_layout.proofs.checks.check_objects.Goals as goal

pub returns-in_err-met-clause-reported : goal.returns-in_err-met-clause-reported
returns-in_err-met-clause-reported c =
    let p = err_from_is_err_and c.from_residual.result c.from_residual.ensures.1 in
    rw (p.1, p.2) (first-reported _ _ _ _ refl c.in_err-met.ensures.reported)

pub returns-then-met-marks-clause-reported : goal.returns-then-met-marks-clause-reported
returns-then-met-marks-clause-reported c =
    let marks = mark_faults (starts c.args.edition c.args.words.now) 0 c.args.marks.now in
    ap (λ (l : List LayoutFault). l ++ marks) c.in_ok-met.ensures.reported ∙ (met-all _ c.args.marks.now _ _ (omega arith) c.in_ok-met.ensures.met).0

pub returns-then-met-marks-clause-targets : goal.returns-then-met-marks-clause-targets
returns-then-met-marks-clause-targets c = (met-all _ c.args.marks.now _ _ (omega arith) c.in_ok-met.ensures.met).1

pub returns-in_err-check_marks-clause-reported : goal.returns-in_err-check_marks-clause-reported
returns-in_err-check_marks-clause-reported c =
    let p = err_from_is_err_and c.from_residual-in_err-check_marks.result c.from_residual-in_err-check_marks.ensures.1 in
    rw (p.1, p.2) (first-behind _ _ _ c.in_ok-met.ensures.reported c.in_err-check_marks.ensures)

pub put_marks-requires : goal.put_marks-requires
put_marks-requires c = λ k d within.
    let placed = marks-placed c.args.edition c.args.words.now c.args.marks.now c.in_ok-met.ensures.reported c.in_ok-check_marks.ensures k d within in
    omega (arith, placed.within)

pub returns-clause-reported : goal.returns-clause-reported
returns-clause-reported c =
    let marks = mark_faults (starts c.args.edition c.args.words.now) 0 c.args.marks.now in
    ap (λ (l : List LayoutFault). l ++ marks) c.in_ok-met.ensures.reported ∙ c.in_ok-check_marks.ensures

pub returns-clause-targets : goal.returns-clause-targets
returns-clause-targets c = c.put_marks.ensures.marks
