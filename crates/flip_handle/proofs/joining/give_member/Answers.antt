use Rattle.std.proofs.Common.{Option, inl, ap}
use Rattle.handle_base.specs.HandleKinds.{crew_in, mutator_in}
use Rattle.handle_base.specs.declared.kept.Kept.{Kept}
use Rattle.flip_handle.proofs.Joined.{joined, kept_is}
use Rattle.flip_handle.proofs.joining.give_member.Goals as goal

pub give-given-requires-clause-apart : goal.give-given-requires-clause-apart
give-given-requires-clause-apart c =
    c.requires c.in-Ok.bench c.in-Ok-into_mutator.m
    (ap (λ (h : Option Kept). crew_in h) (kept_is _ _ _ c.in-Some.ensures.opened.0 c.in-Ok.ensures.crew))
    (ap (λ (h : Option Kept). mutator_in h) (kept_is _ _ _ c.in-Some-open.ensures.opened.0 c.in-Ok-into_mutator.ensures.mutator))

pub returns-in-Ok-given : goal.returns-in-Ok-given
returns-in-Ok-given c =
    joined _ _ _ _ _ c.in-Ok.bench c.in-Ok-into_mutator.m
    (kept_is _ _ _ c.in-Some.ensures.opened.0 c.in-Ok.ensures.crew)
    (kept_is _ _ _ c.in-Some-open.ensures.opened.0 c.in-Ok-into_mutator.ensures.mutator)
    (inl (c.give-given.new.self, c.close-2.ensures, c.in-Some-open.ensures.empty, c.in-Ok-given.ensures.given, c.done.ensures))
