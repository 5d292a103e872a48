use Rattle.std.proofs.Common.{◌≡◌, ℕ, true, List, subst}
use Rattle.heap_layout.specs.Bits.{bit}
use Rattle.rest_marks.specs.Growing.{roots_on, IsMoreFaultOf}
use Rattle.rest_marks.specs.Reached.{IsReachedFrom}
use Rattle.rest_marks.proofs.Grown.{begun-none, fault-none}
use Rattle.rest_marks.proofs.marking.mark_with.Goals as goal

pub mark_on-requires-clause-begun : goal.mark_on-requires-clause-begun
mark_on-requires-clause-begun c =
    rw c.requires.empty (begun-none c.args.edition c.args.words.now c.args.heads.now c.args.bits.now c.requires.sizes.0 c.requires.no_heads c.requires.no_bits)

pub returns-clause-reached : goal.returns-clause-reached
returns-clause-reached c =
    subst (λ (queue : List ℕ). (i : ℕ) → bit c.mark_on.new.heads i ≡ true → IsReachedFrom c.args.edition c.args.words.now (roots_on queue c.args.roots.now) i) c.requires.empty
    c.in_default.ensures.reached

pub returns-clause-all : goal.returns-clause-all
returns-clause-all c =
    subst (λ (queue : List ℕ). (i : ℕ) → IsReachedFrom c.args.edition c.args.words.now (roots_on queue c.args.roots.now) i → bit c.mark_on.new.heads i ≡ true) c.requires.empty
    c.in_default.ensures.all

pub returns-in-Err-clause-fault : goal.returns-in-Err-clause-fault
returns-in-Err-clause-fault c =
    fault-none c.args.edition c.args.words.now c.args.roots.now c.in-Err.fault c.requires.sizes.0
    (subst (λ (queue : List ℕ). IsMoreFaultOf c.args.edition c.args.words.now queue c.args.roots.now c.in-Err.fault) c.requires.empty c.in-Err.ensures.fault)
