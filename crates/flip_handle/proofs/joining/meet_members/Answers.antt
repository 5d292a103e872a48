use Rattle.std.proofs.Common.{Option, inl, ap}
use Rattle.handle_base.specs.HandleKinds.{mutator_in}
use Rattle.handle_base.specs.declared.kept.Kept.{Kept}
use Rattle.flip_handle.proofs.Joined.{brought, kept_is}
use Rattle.flip_handle.proofs.joining.meet_members.Goals as goal

pub meet-met-requires-clause-apart : goal.meet-met-requires-clause-apart
meet-met-requires-clause-apart c =
    c.requires c.in-Ok.m c.in-Ok-into_mutator.o
    (ap (λ (h : Option Kept). mutator_in h) (kept_is _ _ _ c.in-Some.ensures.opened.0 c.in-Ok.ensures.mutator))
    (ap (λ (h : Option Kept). mutator_in h) (kept_is _ _ _ c.in-Some-open.ensures.opened.0 c.in-Ok-into_mutator.ensures.mutator))

pub returns-then-met : goal.returns-then-met
returns-then-met c =
    let h = c.meet-met.ensures in
    let yes = c.if-met.true in
    brought _ _ _ _ _ c.in-Ok.m c.in-Ok-into_mutator.o
    (kept_is _ _ _ c.in-Some.ensures.opened.0 c.in-Ok.ensures.mutator)
    (kept_is _ _ _ c.in-Some-open.ensures.opened.0 c.in-Ok-into_mutator.ensures.mutator)
    (inl (
      c.meet-met.new.self,
      c.meet-met.new.other,
      c.close-2.ensures,
      c.close-3.ensures,
      record {
        crew = h.crew.0;
        other_crew = h.crew.1;
        made = h.made;
        meets = (h.met yes).0;
        other_meets = (h.met yes).1;
        same = h.same yes;
      },
      c.done.ensures,
    ))
