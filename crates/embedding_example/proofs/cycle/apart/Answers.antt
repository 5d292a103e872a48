use Rattle.std.proofs.Common.{IfSome, subst}
use Rattle.std.proofs.lemmas.List.Elements.{All-pop}
use Rattle.comp_mutator.specs.Mutators.{IsMutatorOf}
use Rattle.embedding_example.proofs.cycle.apart.Goals as goal

pub returns-in-Some-clause-others : goal.returns-in-Some-clause-others
returns-in-Some-clause-others g c =
    let of = IsMutatorOf c.args._space.now in
    (All-pop of c.args.mutators.items c.pop.new.self.items c.pop.result c.pop.ensures.items c.requires.of).0

pub returns-in-Some-clause-last : goal.returns-in-Some-clause-last
returns-in-Some-clause-last g c =
    let of = IsMutatorOf c.args._space.now in
    subst (λ m. IfSome m of) c.in-Some.is (All-pop of c.args.mutators.items c.pop.new.self.items c.pop.result c.pop.ensures.items c.requires.of).1
