use Rattle.std.proofs.Common.{ℕ, List, subst}
use Rattle.heap_layout.specs.Heap.{Heap}
use Rattle.comp_cycles.specs.Cycles.{IsChapter, IsCycleOf}
use Rattle.comp_cycles.specs.Ends.{checked_faults, cycle_with, IsRefusedFor}
use Rattle.comp_cycles.specs.NumberedHeaps.{IsNumberedAs}
use Rattle.comp_cycles.specs.Stable.{StableHeap}
use Rattle.comp_crew.proofs.finishing.Ended.next_heap.Goals as goal

pub returns-in-Err-clause-refused : goal.returns-in-Err-clause-refused
returns-in-Err-clause-refused c =
    let f = c.args.self.finished in
    subst (λ (h : Heap). IsRefusedFor (checked_faults h f c.args.roots.now c.args.marks.items) c.in-Err.left.fault) c.deref.ensures c.in-Err.ensures.refused

pub returns-in-Ok-clause-cycle : goal.returns-in-Ok-clause-cycle
returns-in-Ok-clause-cycle c =
    let f = c.args.self.finished in
    subst (λ (h : Heap). IsCycleOf h (cycle_with h f c.args.roots.now c.args.marks.items)) c.deref.ensures c.in-Ok.ensures.cycle

pub returns-in-Ok-clause-chapter : goal.returns-in-Ok-clause-chapter
returns-in-Ok-clause-chapter c =
    let f = c.args.self.finished in
    let roots = c.args.roots.now in
    let marks = c.args.marks.items in
    subst (λ (h : Heap). (numbers : List ℕ) → (stable : StableHeap) → IsNumberedAs h numbers stable → IsChapter (cycle_with h f roots marks) numbers stable) c.deref.ensures c.in-Ok.ensures.chapter
