use Rattle.std.proofs.Common.{◌≡◌, ℕ, length, get_or, refl, ap, ◌∙◌, arith}
use Rattle.std.proofs.lemmas.Grind.{common_steps}
use Rattle.std.proofs.lemmas.List.{get_or_default}
use Rattle.rest_marks.specs.Surveys.{heap_of}
use Rattle.stopped_heap.proofs.Viewed.{words-seen}
use Rattle.stopped_heap.proofs.survey.Survey.live_words.Goals as goal

pub returns : goal.returns
returns c =
    let inside = c.self.inside in
    let bits = inside.bits.items in
    let counts = inside.counts.items in
    let offsets = c.self.invariant.0.offsets in
    let long : c.len.result ≡ length bits = grind (arith, common_steps, c.len.ensures) in
    c.from.ensures ∙ c.index.ensures ∙ ap (λ (n : ℕ). get_or counts n c.index.result.now) long
    ∙ get_or_default counts (length bits) c.index.result.now 0 (omega (arith, offsets.long))
    ∙ offsets.before (length bits) (omega arith)
    ∙ words-seen inside.edition inside.words.now inside.heads.items bits counts bits (heap_of c.args.self.now) c.self.invariant.0 refl (ap heap_of c.self.view_is)
