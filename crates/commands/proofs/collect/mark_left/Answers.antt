use Rattle.std.proofs.Common.{◌≡◌, ◌∙◌, true, false, sym}
use Rattle.heap_layout.specs.declared.fault.LayoutFault.TheVariants.{OutOfMemory}
use Rattle.commands.proofs.Collected.{left-heap, left-memory}
use Rattle.commands.proofs.collect.mark_left.Goals as goal
use Rattle.commands.proofs.collect.mark_left.Goals.{in-OutOfMemory, in_default}

pub prove-unreachable-requires : goal.prove-unreachable-requires
prove-unreachable-requires g c =
    let (heap, same, reached, left) = c.requires in
    let is : c.in-Err.fault ≡ OutOfMemory = left-memory heap c.args.edition c.args.words.items c.args.roots.items same reached left c.in-Err.fault c.in-Err.ensures.refused in
    elim c.match-matches.branch [
      | in-OutOfMemory w ↦ (let no : true ≡ false = sym w.matches-is ∙ c.if-prove.true in cc)
      | in_default w ↦ w.in_default.not-OutOfMemory is
    ]

pub returns-in-Ok-clause-left : goal.returns-in-Ok-clause-left
returns-in-Ok-clause-left g c = λ heap same is left.
    let made = c.in-Ok.ensures in
    left-heap heap c.args.edition c.args.words.items c.args.roots.items same is left c.in-Ok.heap made.made made.reachable made.accepted made.stored
