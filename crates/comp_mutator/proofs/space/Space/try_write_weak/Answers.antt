use Rattle.std.proofs.Common.{ℕ, subst}
use Rattle.heap_layout.specs.declared.kind.Kind.TheVariants.{Weak}
use Rattle.comp_access.specs.WriteCalls.{IsWrite}
use Rattle.comp_mutator.specs.Mutators.{pass_of, setup_of}
use Rattle.comp_mutator.proofs.space.Space.try_write_weak.Goals as goal

pub returns-clause-write : goal.returns-clause-write
returns-clause-write g c =
    subst (λ (n : ℕ). IsWrite (setup_of c.args.self.now) (pass_of c.args.m.now) (pass_of c.try_write_referring.new.m) Weak c.args.object n c.args.value c.try_write_referring.result)
    c.from.ensures c.try_write_referring.ensures.write
