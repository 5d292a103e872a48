use Rattle.std.proofs.Common.{ℕ, List, subst, arith}
use Rattle.heap_layout.specs.Faults.{IsFirst}
use Rattle.comp_cycles.specs.Ends.{next_sizes}
use Rattle.comp_cycles.proofs.Refusals.{few_pages, size_refused}
use Rattle.comp_cycles.proofs.next_cycle.next_with_moved.Goals as goal

pub check_next_sizes-requires : goal.check_next_sizes-requires
check_next_sizes-requires g c =
    let few = few_pages (g.B.Builder.heap c.args.builder.now) c.args.finished.now c.args.marks.items c.args.roots.now c.requires.of in
    omega (arith, few)

pub returns-in-Err-clause-refused : goal.returns-in-Err-clause-refused
returns-in-Err-clause-refused g c =
    size_refused (g.B.Builder.heap c.args.builder.now) c.args.finished.now c.args.marks.items c.args.roots.now c.requires.of c.in-Err.fault
    (subst (λ (marks : List ℕ). IsFirst (next_sizes c.args.finished.now marks c.args.roots.now) c.in-Err.fault) c.deref.ensures.value c.in-Err.ensures)
