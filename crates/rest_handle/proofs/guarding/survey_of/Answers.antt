use Rattle.std.proofs.Common.{inr, refl}
use Rattle.rest_marks.specs.declared.fault.SurveyFault.TheVariants as survey
use Rattle.rest_handle.proofs.guarding.survey_of.Goals as goal

pub returns : goal.returns
returns c =
    inr (c.keep_found.ensures.empty c.if-keep_found.false, refl, refl, (survey.OutOfMemory, c.unsurveyed-else-keep_found.ensures, (c.in-Ok.ensures.found.places.sound.few_words, c.in-Ok.ensures.few_roots)))
