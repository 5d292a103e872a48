use Rattle.std.proofs.Common.{◌≡◌, ◌∙◌, IfErr, IfOk, List, ℕ, refl, sym, ap, subst}
use Rattle.heap_layout.specs.Heap.{Heap}
use Rattle.comp_cycles.specs.Cycles.{IsChapter, IsCycleOf, numbers_after}
use Rattle.comp_cycles.specs.Ends.{cycle_of, setup_in}
use Rattle.comp_cycles.specs.Finishes.{journals_of, roots_of}
use Rattle.comp_cycles.proofs.Calls.{own_faults}
use Rattle.reachable_cycles.specs.NextMarks.{IsFound}
use Rattle.reachable_cycles.specs.NextRoots.{IsRefusedWith}
use Rattle.reachable_cycles.specs.StableReach.{AreMarkedReachable, KeepsExactly, written}
use Rattle.reachable_cycles.proofs.Refused.{refused_forwarded}
use Rattle.reachable_cycles.proofs.next.next_of.Goals as goal

pub next_accepted-requires-clause-moved : goal.next_accepted-requires-clause-moved
next_accepted-requires-clause-moved g c = λ lists outlives.
    let found = subst (λ result. IfOk result (IsFound (g.B.Builder.heap c.args.builder.now) c.args.finished (roots_of c.args.finished))) c.in-Ok.is c.requires.found in
    found.moved

pub next_accepted-requires-clause-lowered : goal.next_accepted-requires-clause-lowered
next_accepted-requires-clause-lowered g c = λ lists outlives.
    let found = subst (λ result. IfOk result (IsFound (g.B.Builder.heap c.args.builder.now) c.args.finished (roots_of c.args.finished))) c.in-Ok.is c.requires.found in
    found.lowered

pub next_accepted-requires-clause-faultless : goal.next_accepted-requires-clause-faultless
next_accepted-requires-clause-faultless g c = λ lists outlives.
    let heap = g.B.Builder.heap c.args.builder.now in
    let f = c.args.finished in
    let e = c.requires.of in
    let marks = c.in-Ok.found.marks.items in
    let found = subst (λ result. IfOk result (IsFound heap f (roots_of f))) c.in-Ok.is c.requires.found in
    own_faults heap f marks e (roots_of f) refl
    ∙ c.next_heap_is_accepted.ensures.stayed (setup_in heap f) (journals_of f) (roots_of f) marks e.closed e.finished.history.merges e.finished.roots found.fits.few_words found.reachable

pub returns-in-Ok-clause-reachable : goal.returns-in-Ok-clause-reachable
returns-in-Ok-clause-reachable g c =
    let heap = g.B.Builder.heap c.args.builder.now in
    let f = c.args.finished in
    let found = subst (λ result. IfOk result (IsFound heap f (roots_of f))) c.in-Ok.is c.requires.found in
    subst (λ (list : List ℕ). AreMarkedReachable (cycle_of heap f list)) (sym (ap (λ (h : Heap). h.marks) c.next_accepted.ensures.next)) found.reachable

pub returns-in-Ok-clause-cycle : goal.returns-in-Ok-clause-cycle
returns-in-Ok-clause-cycle g c =
    let heap = g.B.Builder.heap c.args.builder.now in
    subst (λ (list : List ℕ). IsCycleOf heap (cycle_of heap c.args.finished list)) (sym (ap (λ (h : Heap). h.marks) c.next_accepted.ensures.next)) c.next_accepted.ensures.cycle

pub returns-in-Ok-clause-chapter : goal.returns-in-Ok-clause-chapter
returns-in-Ok-clause-chapter g c = λ numbers stable numbered.
    let heap = g.B.Builder.heap c.args.builder.now in
    subst (λ (list : List ℕ). IsChapter (cycle_of heap c.args.finished list) numbers stable) (sym (ap (λ (h : Heap). h.marks) c.next_accepted.ensures.next))
    (c.next_accepted.ensures.chapter numbers stable numbered)

pub returns-in-Ok-clause-keeps : goal.returns-in-Ok-clause-keeps
returns-in-Ok-clause-keeps g c =
    let heap = g.B.Builder.heap c.args.builder.now in
    let f = c.args.finished in
    let marks = c.in-Ok.found.marks.items in
    let same : c.next_accepted.result.marks ≡ marks = ap (λ (h : Heap). h.marks) c.next_accepted.ensures.next in
    let found = subst (λ result. IfOk result (IsFound heap f (roots_of f))) c.in-Ok.is c.requires.found in
    λ numbers stable numbered apart.
    let kept = c.cycle_keeps_reachable.ensures heap (cycle_of heap f marks) numbers stable c.requires.of.closed c.next_accepted.ensures.cycle numbered apart found.reachable in
    subst (λ (list : List ℕ). KeepsExactly (written (cycle_of heap f list) numbers stable) (numbers_after (cycle_of heap f list) numbers stable.given)) (sym same) kept

pub returns-in-Err-clause-refused : goal.returns-in-Err-clause-refused
returns-in-Err-clause-refused g c =
    let heap = g.B.Builder.heap c.args.builder.now in
    let f = c.args.finished in
    let refused = subst (λ result. IfErr result (IsRefusedWith (setup_in heap f) (journals_of f) (roots_of f))) c.in-Err.is c.requires.refused in
    refused_forwarded heap f (roots_of f) c.in-Err.fault c.requires.of refl refused
