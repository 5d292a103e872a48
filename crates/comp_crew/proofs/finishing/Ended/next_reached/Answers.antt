use Rattle.std.proofs.Common.{ℕ, List, subst}
use Rattle.heap_layout.specs.Heap.{Heap}
use Rattle.comp_cycles.specs.Cycles.{given_after, AreApart, IsChapter, numbers_after}
use Rattle.comp_cycles.specs.Ends.{cycle_with}
use Rattle.comp_cycles.specs.NumberedHeaps.{IsNumberedAs}
use Rattle.comp_cycles.specs.Stable.{StableHeap}
use Rattle.reachable_cycles.specs.StableReach.{KeepsExactly, written}
use Rattle.comp_crew.proofs.finishing.Ended.next_reached.Goals as goal

pub returns-in-Ok-clause-keeps : goal.returns-in-Ok-clause-keeps
returns-in-Ok-clause-keeps c =
    let f = c.args.self.finished in
    let roots = c.args.roots.now in
    let marks = c.in-Ok.heap.marks in
    subst (λ (h : Heap). (numbers : List ℕ) → (stable : StableHeap) → IsNumberedAs h numbers stable
    → AreApart h.edition (given_after (cycle_with h f roots marks) stable.given) → KeepsExactly (written (cycle_with h f roots marks) numbers stable) (numbers_after (cycle_with h f roots marks) numbers stable.given))
    c.deref.ensures c.in-Ok.ensures.keeps

pub returns-in-Ok-clause-chapter : goal.returns-in-Ok-clause-chapter
returns-in-Ok-clause-chapter c =
    let f = c.args.self.finished in
    let roots = c.args.roots.now in
    let marks = c.in-Ok.heap.marks in
    subst (λ (h : Heap). (numbers : List ℕ) → (stable : StableHeap) → IsNumberedAs h numbers stable → IsChapter (cycle_with h f roots marks) numbers stable) c.deref.ensures c.in-Ok.ensures.chapter
