use Rattle.handle_base.specs.HandleKinds.{end_in}
use Rattle.flip_handle.specs.Turning.{FollowsReached, IsUnreached}
use Rattle.handle_base.proofs.TurnedKept.{empty_of, turned}
use Rattle.flip_handle.proofs.turning.follow_reached.Goals as goal

pub settle-requires-clause-free : goal.settle-requires-clause-free
settle-requires-clause-free c = λ goes. empty_of _ _ _ c.is_full-full.ensures.full c.is_full-full.ensures.same (c.reached-turned.ensures.free goes)

pub returns : goal.returns
returns c =
    let turn = c.reached-turned in
    turned end_in (FollowsReached c.args.roots.now) (IsUnreached c.args.roots.now) _ _ _ _ _ _ _ _ _ _ _ c.in-Some.ensures.opened.0 c.is_full-full.ensures.full c.is_full-full.ensures.same turn.ensures.turns c.settle.ensures.settles c.settle.ensures.answer
