use Rattle.handle_base.specs.HandleKinds.{crew_in}
use Rattle.flip_handle.specs.Turning.{Finishes, IsUnfinished}
use Rattle.handle_base.proofs.TurnedKept.{empty_of, turned}
use Rattle.flip_handle.proofs.turning.finish_crew.Goals as goal

pub settle-requires-clause-free : goal.settle-requires-clause-free
settle-requires-clause-free c = λ goes. empty_of _ _ _ c.is_full-full.ensures.full c.is_full-full.ensures.same (c.finished-turned.ensures.free goes)

pub returns : goal.returns
returns c =
    let turn = c.finished-turned in
    turned crew_in Finishes IsUnfinished _ _ _ _ _ _ _ _ _ _ _ c.in-Some.ensures.opened.0 c.is_full-full.ensures.full c.is_full-full.ensures.same turn.ensures.turns c.settle.ensures.settles c.settle.ensures.answer
