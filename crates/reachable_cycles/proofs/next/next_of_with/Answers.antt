use Rattle.std.proofs.Common.{◌≡◌, IfErr, IfOk, List, ℕ, sym, ap, subst}
use Rattle.heap_layout.specs.Heap.{Heap}
use Rattle.comp_cycles.specs.Cycles.{IsChapter, IsCycleOf, numbers_after}
use Rattle.comp_cycles.specs.Ends.{cycle_with, setup_in}
use Rattle.comp_cycles.specs.Finishes.{journals_of}
use Rattle.reachable_cycles.specs.NextMarks.{IsFound}
use Rattle.reachable_cycles.specs.NextRoots.{IsRefusedWith}
use Rattle.reachable_cycles.specs.StableReach.{AreMarkedReachable, KeepsExactly, written}
use Rattle.reachable_cycles.proofs.Refused.{checked_none}
use Rattle.reachable_cycles.proofs.next.next_of_with.Goals as goal

pub next_accepted_with-requires-clause-moved : goal.next_accepted_with-requires-clause-moved
next_accepted_with-requires-clause-moved g c = λ lists outlives.
    let found = subst (λ result. IfOk result (IsFound (g.B.Builder.heap c.args.builder.now) c.args.finished c.args.roots.now)) c.in-Ok.is c.requires.found in
    found.moved

pub next_accepted_with-requires-clause-lowered : goal.next_accepted_with-requires-clause-lowered
next_accepted_with-requires-clause-lowered g c = λ lists outlives.
    let found = subst (λ result. IfOk result (IsFound (g.B.Builder.heap c.args.builder.now) c.args.finished c.args.roots.now)) c.in-Ok.is c.requires.found in
    found.lowered

pub next_accepted_with-requires-clause-faultless : goal.next_accepted_with-requires-clause-faultless
next_accepted_with-requires-clause-faultless g c = λ lists outlives.
    let heap = g.B.Builder.heap c.args.builder.now in
    let f = c.args.finished in
    let e = c.requires.of in
    let roots = c.args.roots.now in
    let marks = c.in-Ok.found.marks.items in
    let found = subst (λ result. IfOk result (IsFound heap f roots)) c.in-Ok.is c.requires.found in
    let none = c.next_heap_is_accepted.ensures.handed (setup_in heap f) (journals_of f) roots marks e.closed e.finished.history.merges found.lead found.fits found.reachable in
    checked_none heap f roots marks e found.lead none

pub returns-in-Ok-clause-reachable : goal.returns-in-Ok-clause-reachable
returns-in-Ok-clause-reachable g c =
    let heap = g.B.Builder.heap c.args.builder.now in
    let f = c.args.finished in
    let roots = c.args.roots.now in
    let found = subst (λ result. IfOk result (IsFound heap f roots)) c.in-Ok.is c.requires.found in
    subst (λ (list : List ℕ). AreMarkedReachable (cycle_with heap f roots list)) (sym (ap (λ (h : Heap). h.marks) c.next_accepted_with.ensures.next)) found.reachable

pub returns-in-Ok-clause-cycle : goal.returns-in-Ok-clause-cycle
returns-in-Ok-clause-cycle g c =
    let heap = g.B.Builder.heap c.args.builder.now in
    subst (λ (list : List ℕ). IsCycleOf heap (cycle_with heap c.args.finished c.args.roots.now list)) (sym (ap (λ (h : Heap). h.marks) c.next_accepted_with.ensures.next)) c.next_accepted_with.ensures.cycle

pub returns-in-Ok-clause-chapter : goal.returns-in-Ok-clause-chapter
returns-in-Ok-clause-chapter g c = λ numbers stable numbered.
    let heap = g.B.Builder.heap c.args.builder.now in
    subst (λ (list : List ℕ). IsChapter (cycle_with heap c.args.finished c.args.roots.now list) numbers stable) (sym (ap (λ (h : Heap). h.marks) c.next_accepted_with.ensures.next))
    (c.next_accepted_with.ensures.chapter numbers stable numbered)

pub returns-in-Ok-clause-keeps : goal.returns-in-Ok-clause-keeps
returns-in-Ok-clause-keeps g c =
    let heap = g.B.Builder.heap c.args.builder.now in
    let f = c.args.finished in
    let roots = c.args.roots.now in
    let marks = c.in-Ok.found.marks.items in
    let same : c.next_accepted_with.result.marks ≡ marks = ap (λ (h : Heap). h.marks) c.next_accepted_with.ensures.next in
    let found = subst (λ result. IfOk result (IsFound heap f roots)) c.in-Ok.is c.requires.found in
    λ numbers stable numbered apart.
    let kept = c.cycle_keeps_reachable.ensures heap (cycle_with heap f roots marks) numbers stable c.requires.of.closed c.next_accepted_with.ensures.cycle numbered apart found.reachable in
    subst (λ (list : List ℕ). KeepsExactly (written (cycle_with heap f roots list) numbers stable) (numbers_after (cycle_with heap f roots list) numbers stable.given)) (sym same) kept

pub returns-in-Err-clause-refused : goal.returns-in-Err-clause-refused
returns-in-Err-clause-refused g c =
    let heap = g.B.Builder.heap c.args.builder.now in
    let f = c.args.finished in
    subst (λ result. IfErr result (IsRefusedWith (setup_in heap f) (journals_of f) c.args.roots.now)) c.in-Err.is c.requires.refused
