use Rattle.std.proofs.lemmas.List.Elements.{All-set}
use Rattle.comp_mutator.specs.Mutators.{IsMutatorOf}
use Rattle.test_dumps.proofs.dumped_runs.expect_call.Goals as goal

pub returns : goal.returns
returns g c =
    let of = IsMutatorOf c.args.space.now in
    record { of = All-set of c.args.mutators.now c.args.call.now.0 c.answer-found.new.m c.answer-found.ensures.of c.requires.of }
