use Rattle.std.proofs.Common.{◌≡◌, ℕ, ◌+◌, ◌<◌, List, length, get_or, take, drop, sym, ap, ◌∙◌, arith, length-take, length-drop}
use Rattle.std.proofs.lemmas.Grind.{same_number_lists}
use Rattle.std.proofs.lemmas.List.{get_or-take, get_or-drop}
use Rattle.heap_layout.specs.Heap.{Heap, live}
use Rattle.page_plan.specs.Sliding.{live_words}
use Rattle.rest_slide.specs.Settled.{settled_words}
use Rattle.rest_marks.specs.Surveys.{heap_of, told}
use Rattle.rest_slide.proofs.Settling.{settled-all}
use Rattle.stopped_heap.proofs.Viewed.{words-seen}
use Rattle.stopped_heap.proofs.survey.Survey.slide.Goals as goal

pub slide_part-requires-clause-inside : goal.slide_part-requires-clause-inside
slide_part-requires-clause-inside c =
    let inside = c.self.inside in
    let all = words-seen inside.edition inside.words.now inside.heads.items inside.bits.items inside.counts.items c.deref-2.result.now (heap_of c.args.self.now)
    c.self.invariant.0 c.deref-2.ensures.value (ap heap_of c.self.view_is) in
    omega (arith, all, c.requires)

pub returns : goal.returns
returns c =
    let inside = c.self.inside in
    let first = c.args.first in
    let count = length c.args.part.now in
    let all = settled_words (live (heap_of c.args.self.now)) in
    let same : settled_words (live (told inside.edition inside.words.now c.deref.result.now)) ≡ all =
    ap (λ (heads : List ℕ). settled_words (live (told inside.edition inside.words.now heads))) c.deref.ensures.value
    ∙ ap (λ (heap : Heap). settled_words (live heap)) (ap heap_of c.self.view_is) in
    let many : length all ≡ live_words (live (heap_of c.args.self.now)) =
    ap (λ (heap : Heap). length (settled_words (live heap))) (sym (ap heap_of c.self.view_is))
    ∙ settled-all (told inside.edition inside.words.now inside.heads.items) c.self.invariant.0.sound
    ∙ ap (λ (heap : Heap). live_words (live heap)) (ap heap_of c.self.view_is) in
    let long : length c.slide_part.new.part ≡ length (take count (drop first all)) =
    omega (arith, c.slide_part.ensures.length, length-take count (drop first all), length-drop first all, many, c.requires) in
    same_number_lists c.slide_part.new.part (take count (drop first all)) long (λ k lt.
    let within : k < count = omega (arith, lt, c.slide_part.ensures.length) in
    c.slide_part.ensures.words k within ∙ ap (λ (xs : List ℕ). get_or xs (first + k) 0) same
    ∙ sym (get_or-take count (drop first all) k 0 within ∙ get_or-drop first all k 0))
