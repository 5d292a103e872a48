use Rattle.std.proofs.Common.{List, ℕ, IfOk, IfErr, subst}
use Rattle.std.proofs.lemmas.Result.{IfErr-weaker}
use Rattle.heap_layout.specs.Faults.{faults, IsAnswered}
use Rattle.heap_layout.specs.Heap.{Heap}
use Rattle.reachability.specs.Reachable.{AreReachable, RefusesFor}
use Rattle.reachability.proofs.Least.{once}
use Rattle.reachability.proofs.Refusals.{front, refuses-answered, refused-row}
use Rattle.reachability.proofs.heaps.heap_of.Goals as goal

pub returns-in-Ok-clause-refused : goal.returns-in-Ok-clause-refused
returns-in-Ok-clause-refused c =
    let edition = c.args.edition in
    let words = c.args.words.items in
    let roots = c.args.roots.items in
    let found = c.in-Ok.marks.items in
    let heap : List ℕ → Heap = λ marks. record { edition = edition; words = words; marks = marks; roots = roots } in
    let reachable : AreReachable edition words roots found = subst (λ result. IfOk result (λ marks. AreReachable edition words roots marks.items)) c.in-Ok.is c.requires.reachable in
    IfErr-weaker c.from_parts_of.result (IsAnswered (faults (heap found))) (λ fault. (marks : List ℕ) → AreReachable edition words roots marks → RefusesFor (faults (heap marks)) fault)
    (λ fault answered marks are.
    refuses-answered (faults (heap marks)) fault
    (subst (λ (list : List ℕ). IsAnswered (faults (heap list)) fault) (once edition words roots found marks reachable are) answered))
    c.from_parts_of.ensures.fault

pub returns-in-Err-clause-refused : goal.returns-in-Err-clause-refused
returns-in-Err-clause-refused c = λ marks are.
    let edition = c.args.edition in
    let words = c.args.words.items in
    let roots = c.args.roots.items in
    let refuses = subst (λ result. IfErr result (RefusesFor (front edition words roots))) c.in-Err.is c.requires.refused in
    refused-row edition words roots marks c.in-Err.fault are refuses
