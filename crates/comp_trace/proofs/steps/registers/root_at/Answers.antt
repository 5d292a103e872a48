use Rattle.heap_layout.specs.Heap.{live}
use Rattle.comp_mutator.specs.Sliding.{forward_value}
use Rattle.comp_mutator.specs.Mutators.{setup_of}
use Rattle.comp_trace.proofs.OneLine.{leads_at}
use Rattle.comp_trace.proofs.steps.registers.root_at.Goals as goal

pub returns : goal.returns
returns g c =
    let heap = (setup_of c.args.space.now).heap in
    (leads_at (forward_value heap.edition (live heap)) c.roots.result.now heap.roots c.roots.ensures c.args.root c.requires).1
