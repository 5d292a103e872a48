use Rattle.std.proofs.Common.{inr}
use Rattle.rest_marks.specs.declared.fault.MarksFault.TheVariants as marks
use Rattle.rest_handle.proofs.resting.survey_marks.Goals as goal

pub returns-else-keep_found : goal.returns-else-keep_found
returns-else-keep_found c =
    let found = c.in-Ok.ensures.found in
    let sound = found.places.sound in
    inr (c.keep_found.ensures.empty c.if-keep_found.false, (marks.OutOfMemory, c.unmarked-else-keep_found.ensures, inr (found.long, ((sound.few_words, sound.few_roots), found.long))))
