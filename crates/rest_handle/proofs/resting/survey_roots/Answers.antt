use Rattle.std.proofs.Common.{inr}
use Rattle.rest_marks.specs.declared.fault.SurveyFault.TheVariants as survey
use Rattle.rest_handle.proofs.resting.survey_roots.Goals as goal

pub returns-else-keep_found : goal.returns-else-keep_found
returns-else-keep_found c =
    let sound = c.in-Ok.ensures.found.places.sound in
    inr (c.keep_found.ensures.empty c.if-keep_found.false, (survey.OutOfMemory, c.unsurveyed-else-keep_found.ensures, (sound.few_words, sound.few_roots)))
