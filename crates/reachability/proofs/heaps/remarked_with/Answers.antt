use Rattle.std.proofs.Common.{◌≡◌, ◌∙◌, ℕ, List, IfOk, IfErr, true, false, sym, subst}
use Rattle.heap_layout.specs.declared.edition.Edition.{Edition}
use Rattle.heap_layout.specs.declared.fault.LayoutFault.{LayoutFault}
use Rattle.heap_layout.specs.declared.fault.LayoutFault.TheVariants.{OutOfMemory}
use Rattle.heap_layout.specs.Heap.{Heap}
use Rattle.heap_layout.specs.Faults.{IsAccepted}
use Rattle.reachability.specs.Reachable.{AreReachable, RefusesFor}
use Rattle.reachability.proofs.Least.{accepted-least}
use Rattle.reachability.proofs.Refusals.{front, front-none, memory-only}
use Rattle.reachability.proofs.heaps.remarked_with.Goals as goal
use Rattle.reachability.proofs.heaps.remarked_with.Goals.{in-OutOfMemory, in_default}

-- the parts of an accepted heap are accepted with the marks that its roots reach, whichever way they are written
parts-accepted : (heap : Heap) (edition : Edition) (words roots marks : List ℕ) → IsAccepted heap → edition ≡ heap.edition → words ≡ heap.words → roots ≡ heap.roots
    → AreReachable heap.edition heap.words heap.roots marks → IsAccepted (record { edition = edition; words = words; marks = marks; roots = roots })
parts-accepted heap edition words roots marks accepted same_edition same_words same_roots are = rw (same_edition, same_words, same_roots) (accepted-least heap marks accepted are)

-- and the marker is refused only for memory
memory : (heap : Heap) (fault : LayoutFault) → IsAccepted heap → RefusesFor (front heap.edition heap.words heap.roots) fault → fault ≡ OutOfMemory
memory heap fault accepted refuses = memory-only fault (subst (λ (list : List LayoutFault). RefusesFor list fault) (front-none heap accepted) refuses)

pub prove-unreachable-requires : goal.prove-unreachable-requires
prove-unreachable-requires c =
    let heap = c.args.heap.now in
    let refuses = subst (λ result. IfErr result (RefusesFor (front heap.edition heap.words heap.roots))) c.in-Err.is c.requires.refused in
    let is : c.in-Err.fault ≡ OutOfMemory = memory heap c.in-Err.fault c.words-words.ensures.accepted refuses in
    elim c.match-matches.branch [
      | in-OutOfMemory w ↦ (let no : true ≡ false = sym w.matches-is ∙ c.if-prove.true in cc)
      | in_default w ↦ w.in_default.not-OutOfMemory is
    ]

pub of_accepted-requires : goal.of_accepted-requires
of_accepted-requires c =
    let heap = c.args.heap.now in
    let words = c.in_ok-words-in-Ok.ensures.items ∙ c.words-words.ensures.words in
    let roots = c.in_ok-roots-in-Ok.ensures.items ∙ c.roots-roots.ensures.roots in
    let reachable = subst (λ result. IfOk result (λ marks. AreReachable heap.edition heap.words heap.roots marks.items)) c.in-Ok.is c.requires.reachable in
    parts-accepted heap c.edition-edition.result c.in_ok-words-in-Ok.words.items c.in_ok-roots-in-Ok.roots.items c.in-Ok.marks.items c.words-words.ensures.accepted c.edition-edition.ensures words roots reachable

pub returns-in_ok-roots-in-Ok-clause-accepted : goal.returns-in_ok-roots-in-Ok-clause-accepted
returns-in_ok-roots-in-Ok-clause-accepted c =
    let heap = c.args.heap.now in
    let words = c.in_ok-words-in-Ok.ensures.items ∙ c.words-words.ensures.words in
    let roots = c.in_ok-roots-in-Ok.ensures.items ∙ c.roots-roots.ensures.roots in
    let reachable = subst (λ result. IfOk result (λ marks. AreReachable heap.edition heap.words heap.roots marks.items)) c.in-Ok.is c.requires.reachable in
    subst IsAccepted (sym c.of_accepted.ensures.made)
    (parts-accepted heap c.edition-edition.result c.in_ok-words-in-Ok.words.items c.in_ok-roots-in-Ok.roots.items c.in-Ok.marks.items c.words-words.ensures.accepted c.edition-edition.ensures words roots reachable)
