use Rattle.std.proofs.lemmas.List.Elements.{All-set}
use Rattle.comp_mutator.specs.Mutators.{IsMutatorOf}
use Rattle.test_dumps.proofs.contention.racing_writes.expect_full.Goals as goal

pub returns : goal.returns
returns g c =
    let of = IsMutatorOf c.args.space.now in
    record { of = All-set of c.args.mutators.now 0 c.try_write_data-answer.new.m c.try_write_data-answer.ensures.of c.requires.of }
