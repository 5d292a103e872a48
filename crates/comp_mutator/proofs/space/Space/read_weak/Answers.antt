use Rattle.std.proofs.Common.{ℕ, subst}
use Rattle.heap_layout.specs.declared.kind.Kind.TheVariants.{Weak}
use Rattle.comp_access.specs.ReadCalls.{IsRead}
use Rattle.comp_mutator.specs.Mutators.{pass_of, setup_of}
use Rattle.comp_mutator.proofs.space.Space.read_weak.Goals as goal

pub returns-clause-read : goal.returns-clause-read
returns-clause-read g c =
    subst (λ (n : ℕ). IsRead (setup_of c.args.self.now) (pass_of c.args.m.now) (pass_of c.read_referring.new.m) Weak c.args.object n c.read_referring.result)
    c.from.ensures c.read_referring.ensures.read
