use Rattle.std.proofs.Common.{IfSome, subst}
use Rattle.std.proofs.lemmas.List.Elements.{All-pop, All-push, All-same}
use Rattle.comp_mutator.specs.Mutators.{IsMutatorOf}
use Rattle.test_mutators.proofs.mutated_heaps.meet.Goals as goal

pub met-m0-requires-clause-first : goal.met-m0-requires-clause-first
met-m0-requires-clause-first g c κs within =
    let of = IsMutatorOf c.args.space.now in
    let left = (All-pop of c.args.mutators.now.items c.pop.new.self.items c.pop.result c.pop.ensures.items c.requires.of).0 in
    subst (λ m. IfSome m of) c.expect-m0.ensures (All-pop of c.pop.new.self.items c.pop-2.new.self.items c.pop-2.result c.pop-2.ensures.items left).1

pub met-m0-requires-clause-second : goal.met-m0-requires-clause-second
met-m0-requires-clause-second g c κs within =
    let of = IsMutatorOf c.args.space.now in
    subst (λ m. IfSome m of) c.expect-m1.ensures (All-pop of c.args.mutators.now.items c.pop.new.self.items c.pop.result c.pop.ensures.items c.requires.of).1

pub returns : goal.returns
returns g c =
    let of = IsMutatorOf c.args.space.now in
    let more = (All-pop of c.args.mutators.now.items c.pop.new.self.items c.pop.result c.pop.ensures.items c.requires.of).0 in
    let left = (All-pop of c.pop.new.self.items c.pop-2.new.self.items c.pop-2.result c.pop-2.ensures.items more).0 in
    let one = All-same of c.push_reserved.new.self.items _ c.push_reserved.ensures.items (All-push of c.pop-2.new.self.items c.met-m0.result.0 left c.met-m0.ensures.first) in
    record { of = All-same of c.push_reserved-2.new.self.items _ c.push_reserved-2.ensures.items (All-push of c.push_reserved.new.self.items c.met-m0.result.1 one c.met-m0.ensures.second) }
