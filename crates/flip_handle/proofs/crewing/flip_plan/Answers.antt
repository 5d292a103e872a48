use Rattle.std.proofs.Common.{inl, ap, ◌∙◌}
use Rattle.handle_base.specs.Answers.{done}
use Rattle.flip_handle.proofs.crewing.flip_plan.Goals as goal

pub returns-then-keep : goal.returns-then-keep
returns-then-keep c =
    inl (c.in-Ok.bench, c.if-keep.ensures, c.in-Ok.ensures.flipped, c.requires.count, c.requires.few, c.done.ensures ∙ ap done c.from.ensures)
