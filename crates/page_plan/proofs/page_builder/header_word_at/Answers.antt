use Rattle.std.proofs.Common.{◌≡◌, ◌+◌, ℕ, List, slice_index, refl, sym, ap, ◌∙◌, arith}
use Rattle.heap_layout.specs.Heap.{IsClosed}
use Rattle.heap_layout.specs.declared.kind.Kind.TheVariants.{Header}
use Rattle.page_plan.proofs.Objects.{word-kept}
use Rattle.page_plan.proofs.page_builder.header_word_at.Goals as goal

pub returns : goal.returns
returns c =
    let heap = c.args.plan.now in
    let cursor = c.args.cursor in
    let words : c.words.result.now ≡ heap.words = cc in
    let closed : IsClosed heap = rw c.heap.ensures at c.words.ensures.closed in
    let same : c.args.start ≡ c.args.start + cursor.within = omega (arith, c.requires.first) in
    let kept = word-kept heap closed cursor.number cursor.within c.args.start cursor.new_index Header c.requires.known c.requires.start
    (c.requires.at.at c.requires.known) c.requires.first refl (c.requires.at.inside c.requires.known) in
    ap (λ (ws : List ℕ). slice_index ws c.args.start) words ∙ ap (slice_index heap.words) same ∙ sym kept
