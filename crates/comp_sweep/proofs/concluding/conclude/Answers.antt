use Rattle.std.proofs.Common.{subst}
use Rattle.comp_mutator.specs.Mutators.{setup_of}
use Rattle.comp_mutator.specs.CellEnds.{lists}
use Rattle.comp_sweep.specs.RegionSplits.{regions_of, AreAllOnce}
use Rattle.comp_sweep.proofs.Resting.{concluded}
use Rattle.comp_sweep.proofs.SweepAnswers.{none_swept, still_of}
use Rattle.comp_sweep.proofs.concluding.conclude.Goals as goal

pub returns-in-Some-clause-back : goal.returns-in-Some-clause-back
returns-in-Some-clause-back g c = none_swept c.args.space.now c.args.outcome.mutators.items c.requires.ended.of

pub returns-in-Ok-clause-swept : goal.returns-in-Ok-clause-swept
returns-in-Ok-clause-swept g c =
    let ended = c.requires.ended in
    let rest = c.in-Ok.ensures.rest in
    let back = c.sweep_rest.ensures.swept in
    let none = c.in_default.is in record {
      of = still_of c.args.space.now c.args.outcome.mutators.items c.sweep_rest.new.mutators.items back;
      back = back;
      once = subst (λ n. AreAllOnce (regions_of n) (lists c.sweep_rest.new.regions.items)) c.requires.compacted
          (concluded (setup_of c.args.space.now) (regions_of g.S.Sweeping.compacted) c.args.outcome.queues.items c.gather.new.queues.items c.sweep_rest.new.queues.items
          c.args.outcome.regions.items c.sweep_rest.new.regions.items c.sweep_rest.new.mutators.items ended.distributed c.gather.ensures.put c.gather.ensures.taken c.gather.ensures.alone
          (ended.tally none) rest);
      seen = rest.seen;
    }
