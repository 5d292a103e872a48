use Rattle.std.proofs.Common.{inr, refl, ◌∙◌}
use Rattle.rest_marks.specs.declared.fault.SurveyFault.TheVariants as survey
use Rattle.rest_handle.proofs.helping.begin.Goals as goal

pub returns-else-keep : goal.returns-else-keep
returns-else-keep c = inr (c.if-keep.ensures ∙ c.requires, (survey.OutOfMemory, c.unsurveyed.ensures, (inr refl, c.in-Ok.ensures.few)))
