use Rattle.std.proofs.Common.{◌≡◌, ℕ, ◌++◌, drop, map, length, refl, sym, ap, subst, ◌∙◌}
use Rattle.heap_layout.specs.Heap.{live}
use Rattle.page_plan.specs.Sliding.{live_words}
use Rattle.stopped_heap.specs.Collecting.{HasCollected}
use Rattle.rest_slide.specs.Settled.{settled_word, settled_words}
use Rattle.rest_marks.specs.Surveys.{surveyed, told}
use Rattle.stopped_heap.proofs.Viewed.{last-count, settled-seen}
use Rattle.stopped_heap.proofs.Whole.{is-collected}
use Rattle.stopped_heap.proofs.in_place.slide_home.Goals as goal

pub returns : goal.returns
returns c = λ reached sound.
    let e = c.args.edition in
    let words = c.args.words.now in
    let roots = c.args.roots.now in
    let heads = c.args.heads.now in
    let bits = c.args.bits.now in
    let counts = c.args.counts.now in
    let live_heap = told e words heads in
    let all = settled_words (live live_heap) in
    let count = c.from.result in
    let counted : count ≡ live_words (live live_heap) = c.from.ensures ∙ last-count e words heads bits counts c.requires (length bits) 0 refl in
    let slid : c.slide_down.new.words ≡ all ++ drop count words = c.slide_down.ensures ∙ ap (λ (n : ℕ). all ++ drop n words) (sym counted) in
    let forwarded : c.settle_all.new.words ≡ map (settled_word e (live live_heap)) roots = c.settle_all.ensures ∙ settled-seen e words heads bits counts heads bits live_heap roots c.requires refl refl refl in
    subst (HasCollected e words roots count c.settle_all.new.words words) (sym slid)
    (is-collected (surveyed e words heads 0) e words roots refl refl reached sound count all words c.settle_all.new.words counted refl forwarded)
