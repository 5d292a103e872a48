use Rattle.std.proofs.Common.{◌≡◌}
use Rattle.heap_layout.specs.declared.kind.Kind.TheVariants.{Data}
use Rattle.comp_access.specs.Fields.{HasSlidFieldOn}
use Rattle.comp_mutator.specs.Mutators.{pass_of, setup_of, unposted_of, IsMutatorOf}
use Rattle.comp_access.proofs.Earlier.{Saw}
use Rattle.comp_mutator.proofs.BusyPages.{Waits}
use Rattle.comp_mutator.proofs.space.Space.write_data_at.Given as goal

abbrev pub invariant-loop : goal.invariant-loop
invariant-loop g l = record {
  of : IsMutatorOf l.self l.m;
  waits : Waits (HasSlidFieldOn (setup_of l.self) Data l.object l.field) (Saw (setup_of l.self) l.object) (pass_of l.initial.m) (pass_of l.m);
  unposted : unposted_of l.m ≡ unposted_of l.initial.m;
}
