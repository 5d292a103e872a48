use Rattle.std.proofs.Common.{◌+◌, ◌<◌, ◌≤◌, arith}
use Rattle.heap_layout.specs.Heap.{live}
use Rattle.page_plan.specs.Sliding.{live_words}
use Rattle.cell_steps.specs.Passes.{number_of}
use Rattle.comp_access.specs.Hands.{made_of}
use Rattle.comp_access.proofs.Fitting.{made_fit}
use Rattle.comp_ledger.specs.Ledgers.{capacity_of, live_of}
use Rattle.comp_mutator.specs.Mutators.{pass_of, setup_of}
use Rattle.comp_mutator.proofs.space.Space.settle.Goals as goal

pub post_fitting-requires : goal.post_fitting-requires
post_fitting-requires g c =
    let space = c.args.self.now in
    let m = c.args.m.now in
    let numbered : number_of (pass_of m) < (setup_of space).mutators = omega (arith, c.requires.numbered, space.cells.passes) in
    let fits : live_of space.ledger + made_of m.hand ≤ capacity_of space.ledger =
    made_fit (setup_of space) m.hand (live_words (live (setup_of space).heap)) _ _ c.requires.of.about numbered space.counted space.slid space.fits in
    let within = m.within in
    omega (arith, fits, within)
