use Rattle.comp_mutator.specs.Mutators.{pass_of, setup_of}
use Rattle.comp_sweep.proofs.Composed.{cause_met}
use Rattle.comp_sweep.proofs.concluding.sweep_left.Goals as goal

pub refusal-requires : goal.refusal-requires
refusal-requires g c =
    cause_met g.S.Sweeping.compacted (setup_of c.args.space.now).compacted g.S.Sweeping.given (pass_of c.args.m.now) c.sweep_regions.new.note.known _ c.requires.compacted
    c.requires.knows c.in-Err.ensures.stopped
