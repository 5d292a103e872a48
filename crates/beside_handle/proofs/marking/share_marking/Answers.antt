use Rattle.std.proofs.Common.{◌≡◌, ◌⊎◌, inl, Option, Some, None, MatchOption, ap, refl, subst, sym}
use Rattle.handle_base.specs.Answers.{bare, done}
use Rattle.handle_base.specs.Statuses.{out_of_memory}
use Rattle.handle_base.specs.HandleKinds.{marking_in}
use Rattle.handle_base.specs.Knowing.{knowing, Knowing}
use Rattle.beside_handle.specs.Marking.{KeepsMarking, KnowsBegun, SharesMarking}
use Rattle.handle_base.specs.declared.answer.Answer.{Answer}
use Rattle.handle_base.specs.declared.kept.Kept.{Kept}
use Rattle.handle_base.specs.declared.kept.Kept.TheVariants as kept
use Rattle.handle_base.specs.declared.marker.Marker.{Marker}
use Rattle.handle_base.proofs.TurnedKept.{empty_of}
use Rattle.beside_handle.proofs.marking.share_marking.Goals as goal

-- a share of what was kept is kept
shared : (N : Type 0) (o : Option Knowing) (own : Marker) (now : Option Kept) (a : Answer) → MatchOption o ⊥ (λ m. KnowsBegun m.begun (knowing own))
    → now ≡ Some (kept.Marking own) → a ≡ done 0 → MatchOption o N (λ m. (KeepsMarking m.begun now × (a ≡ done 0)) ⊎ ((now ≡ None) × (a ≡ bare out_of_memory 0)))
shared N None own now a h is d = absurd h
shared N (Some m) own now a h is d = inl ((knowing own, ap marking_in is, h), d)

pub returns-then-keep-clause-shares : goal.returns-then-keep-clause-shares
returns-then-keep-clause-shares c =
    let from = c.args.h.now.kept in
    let to = c.args.other.now.kept in
    let now = c.keep.new.h.kept in
    subst (λ (o : Option Kept). SharesMarking from o now c.done.result)
    (sym (empty_of c.is_full-full.result to to c.is_full-full.ensures.full refl c.in-Ok.ensures.free))
    (shared _ (marking_in from) c.in-Ok.own now c.done.result c.in-Ok.ensures.knows c.if-keep.ensures c.done.ensures)
