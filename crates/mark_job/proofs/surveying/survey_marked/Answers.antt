use Rattle.std.proofs.Common.{◌≡◌, ℕ, List, subst, sym, ◌∙◌}
use Rattle.std.proofs.lemmas.Bool.{both_ways}
use Rattle.heap_layout.specs.Bits.{bit}
use Rattle.rest_marks.specs.Reached.{AreReached, IsSound}
use Rattle.rest_marks.specs.Surveys.{with_roots}
use Rattle.mark_job.proofs.OneFound.{all-met, marked-of, sound-moved}
use Rattle.mark_job.proofs.surveying.survey_marked.Goals as goal

pub mark-requires-clause-met : goal.mark-requires-clause-met
mark-requires-clause-met c = λ i set. absurd (both_ways (bit c.args.heads.now i) (c.requires.none i) set)

pub returns : goal.returns
returns c =
    let asked = c.args.image.now in
    let heads = c.mark.new.heads in
    let survey = c.in-Ok.survey in
    let said = c.in-Ok.ensures in
    let edition : survey.edition ≡ asked.edition = said.edition ∙ c.edition-edition.ensures in
    let words : survey.words ≡ asked.words = said.words ∙ c.words-words.ensures in
    let sound : IsSound (with_roots survey asked.roots) = subst (λ (rs : List ℕ). IsSound (with_roots survey rs)) c.roots-roots.ensures said.sound in
    let reached : AreReached asked.edition asked.words asked.roots survey.marks =
    subst (AreReached asked.edition asked.words asked.roots) (sym said.marks) (all-met asked heads c.mark.ensures.met (sound-moved asked survey heads edition words said.marks sound)) in
    marked-of asked survey c.release.result edition words reached sound c.release.ensures.found
