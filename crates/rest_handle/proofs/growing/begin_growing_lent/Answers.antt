use Rattle.handle_base.specs.HandleKinds.{tables_in}
use Rattle.rest_handle.specs.Growing.{BeginsLent, IsUnbegun}
use Rattle.handle_base.proofs.TurnedKept.{turned}
use Rattle.rest_handle.proofs.growing.begin_growing_lent.Goals as goal

pub returns : goal.returns
returns c =
    let turn = c.begun-turned in
    turned tables_in (BeginsLent c.args.edition c.args.words.now) (IsUnbegun c.args.edition c.args.words.now) _ _ _ _ _ _ _ _ _ _ _
    c.in-Some.ensures.opened.0 c.is_full-full.ensures.full c.is_full-full.ensures.same turn.ensures.turns c.settle.ensures.settles c.settle.ensures.answer
