use Rattle.std.proofs.Common.{rules, ◌≤◌, inl, inr, ◌∙◌}
use Rattle.heap_layout.specs.Limits.{most_object_words, most_words}
use Rattle.rest_marks.specs.declared.fault.SurveyFault.TheVariants as survey
use Rattle.beside_handle.proofs.lanes.begin.Goals as goal

pub returns-else-keep : goal.returns-else-keep
returns-else-keep c =
    let long : most_words c.args.edition ≤ most_object_words c.args.edition = search rules in
    inl (long, inr (c.if-keep.ensures ∙ c.requires, (survey.OutOfMemory, c.unsurveyed.ensures, c.in-Ok.ensures.few)))
