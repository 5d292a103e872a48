use Rattle.handle_base.specs.HandleKinds.{tables_in}
use Rattle.rest_handle.specs.Lending.{IsUnlent, SurveysLent}
use Rattle.handle_base.proofs.TurnedKept.{turned}
use Rattle.rest_handle.proofs.lending.survey_lent.Goals as goal

pub returns : goal.returns
returns c =
    let turn = c.surveyed-turned in
    turned tables_in (SurveysLent c.args.edition c.args.words.now c.args.roots.now) (IsUnlent c.args.edition c.args.words.now c.args.roots.now) _ _ _ _ _ _ _ _ _ _ _
    c.in-Some.ensures.opened.0 c.is_full-full.ensures.full c.is_full-full.ensures.same turn.ensures.turns c.settle.ensures.settles c.settle.ensures.answer
