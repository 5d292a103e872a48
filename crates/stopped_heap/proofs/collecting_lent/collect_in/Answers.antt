use Rattle.std.proofs.Common.{◌≡◌, ℕ, ◌+◌, List, length, get_or, refl, ap, ◌∙◌, arith, length-take}
use Rattle.std.proofs.lemmas.Grind.{common_steps, same_number_lists}
use Rattle.heap_layout.specs.Heap.{live}
use Rattle.rest_slide.specs.Settled.{settled_words}
use Rattle.rest_marks.specs.Surveys.{surveyed, told}
use Rattle.rest_slide.proofs.Settling.{settled-all}
use Rattle.stopped_heap.proofs.Viewed.{last-count, settled-seen}
use Rattle.stopped_heap.proofs.Whole.{no-room, is-collected}
use Rattle.stopped_heap.proofs.collecting_lent.collect_in.Goals as goal

pub returns-then-live-to-clause-fault : goal.returns-then-live-to-clause-fault
returns-then-live-to-clause-fault c =
    let e = c.args.edition in
    let words = c.args.words.now in
    let roots = c.args.roots.now in
    let heads = c.fill.new.heads.items in
    let bits = c.fill.new.bits.items in
    let counts = c.fill.new.counts.items in
    let found = c.in_default.ensures in
    let long : c.len.result ≡ length bits = grind (arith, common_steps, c.len.ensures) in
    let counted = c.from-live.ensures ∙ c.index.ensures ∙ last-count e words heads bits counts found.tables c.len.result c.index.result.now long in
    no-room (surveyed e words heads 0) e words roots refl refl found.reached found.sound c.from-live.result _ counted (omega arith)

pub returns-clause-collected : goal.returns-clause-collected
returns-clause-collected c =
    let e = c.args.edition in
    let words = c.args.words.now in
    let roots = c.args.roots.now in
    let heads = c.fill.new.heads.items in
    let bits = c.fill.new.bits.items in
    let counts = c.fill.new.counts.items in
    let found = c.in_default.ensures in
    let long : c.len.result ≡ length bits = grind (arith, common_steps, c.len.ensures) in
    let counted = c.from-live.ensures ∙ c.index.ensures ∙ last-count e words heads bits counts found.tables c.len.result c.index.result.now long in
    let all = settled_words (live (told e words heads)) in
    let many = settled-all (told e words heads) found.tables.sound in
    let part = c.slide_part.new.part in
    let long_part : length part ≡ length all = c.slide_part.ensures.length ∙ simp length-take (omega (arith, counted, many)) in
    let filled : part ≡ all = same_number_lists part all long_part (λ k lt.
    let at : 0 + k ≡ k = omega arith in
    c.slide_part.ensures.words k (omega (arith, lt, c.slide_part.ensures.length))
    ∙ ap (λ (hs : List ℕ). get_or (settled_words (live (told e words hs))) (0 + k) 0) c.deref-2.ensures.value
    ∙ ap (λ (n : ℕ). get_or all n 0) at) in
    let forwarded = c.settle_all.ensures ∙ settled-seen e words heads bits counts c.deref-6.result.now c.deref-7.result.now (told e words heads) roots
    found.tables c.deref-6.ensures.value c.deref-7.ensures.value refl in
    is-collected (surveyed e words heads 0) e words roots refl refl found.reached found.sound c.from-live.result part c.args.to.now _ counted filled forwarded
