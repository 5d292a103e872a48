use Rattle.std.proofs.Common.{IfSome, subst}
use Rattle.std.proofs.lemmas.List.Elements.{All-pop}
use Rattle.comp_mutator.specs.Mutators.{IsMutatorOf}
use Rattle.test_mutators.proofs.sweeping.heaps_to_sweep.without_last.Goals as goal

pub returns-clause-others : goal.returns-clause-others
returns-clause-others g c =
    let of = IsMutatorOf c.args._space.now in
    (All-pop of c.args.mutators.items c.pop.new.self.items c.pop.result c.pop.ensures.items c.requires.of).0

pub returns-clause-last : goal.returns-clause-last
returns-clause-last g c =
    let of = IsMutatorOf c.args._space.now in
    subst (λ m. IfSome m of) c.expect-last.ensures (All-pop of c.args.mutators.items c.pop.new.self.items c.pop.result c.pop.ensures.items c.requires.of).1
