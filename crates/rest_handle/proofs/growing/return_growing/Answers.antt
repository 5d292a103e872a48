use Rattle.handle_base.specs.HandleKinds.{room_in}
use Rattle.rest_handle.specs.Growing.{GivesBack, IsNever}
use Rattle.handle_base.proofs.TurnedKept.{turned}
use Rattle.rest_handle.proofs.growing.return_growing.Goals as goal

pub returns : goal.returns
returns c =
    let turn = c.given_back-turned in
    turned room_in GivesBack IsNever _ _ _ _ _ _ _ _ _ _ _
    c.in-Some.ensures.opened.0 c.is_full-full.ensures.full c.is_full-full.ensures.same turn.ensures.turns c.settle.ensures.settles c.settle.ensures.answer
