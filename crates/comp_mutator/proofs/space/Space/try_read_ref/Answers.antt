use Rattle.std.proofs.Common.{ℕ, subst}
use Rattle.heap_layout.specs.declared.kind.Kind.TheVariants.{Reference}
use Rattle.comp_access.specs.ReadCalls.{IsRead}
use Rattle.comp_mutator.specs.Mutators.{pass_of, setup_of}
use Rattle.comp_mutator.proofs.space.Space.try_read_ref.Goals as goal

pub returns-clause-read : goal.returns-clause-read
returns-clause-read g c =
    subst (λ (n : ℕ). IsRead (setup_of c.args.self.now) (pass_of c.args.m.now) (pass_of c.try_read_referring.new.m) Reference c.args.object n c.try_read_referring.result)
    c.from.ensures c.try_read_referring.ensures.read
