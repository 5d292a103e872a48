use Rattle.std.proofs.Common.{rules, ◌≤◌, length, inr, subst, ◌∙◌}
use Rattle.heap_layout.specs.declared.edition.Edition.{Edition}
use Rattle.heap_layout.specs.Limits.{most_words}
use Rattle.rest_marks.specs.declared.fault.SurveyFault.TheVariants as survey
use Rattle.rest_handle.proofs.growing.begin.Goals as goal

pub returns-else-keep : goal.returns-else-keep
returns-else-keep c =
    let fresh = c.in-Ok.ensures.fresh in
    let few : length c.args.words.now ≤ most_words c.args.edition = subst (λ (e : Edition). length c.args.words.now ≤ most_words e) fresh.edition_is fresh.places.sound.few_words in
    inr (c.if-keep.ensures ∙ c.requires, (survey.OutOfMemory, c.unsurveyed.ensures, (few, search rules)))
