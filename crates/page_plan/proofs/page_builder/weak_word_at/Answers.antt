use Rattle.std.proofs.Common.{◌≡◌, ◌+◌, ◌-◌, ℕ, List, slice_index, refl, sym, ap, ◌∙◌, arith}
use Rattle.heap_layout.specs.Header.{refs_of}
use Rattle.heap_layout.specs.Heap.{header_at, live, IsClosed}
use Rattle.heap_layout.specs.declared.kind.Kind.TheVariants.{Weak}
use Rattle.page_plan.specs.Sliding.{forwarded_value}
use Rattle.page_plan.proofs.Objects.{word-led}
use Rattle.page_plan.proofs.page_builder.weak_word_at.Goals as goal

pub returns : goal.returns
returns c =
    let heap = c.args.plan.now in
    let cursor = c.args.cursor in
    let words : c.words.result.now ≡ heap.words = cc in
    let closed : IsClosed heap = rw c.heap.ensures at c.words.ensures.closed in
    let ends = rw c.requires.start at c.requires.ends in
    let after = rw c.requires.start at c.requires.after in
    let refs = refs_of (header_at heap.edition heap.words (slice_index heap.marks cursor.number)) in
    let led = word-led heap closed cursor.number cursor.within c.args.start cursor.new_index Weak c.requires.known c.requires.start
    (c.requires.at.at c.requires.known) (cursor.within - (1 + refs), omega (arith, after), omega (arith, after, ends, c.requires.before)) refl in
    c.forward_weak_word.ensures ∙ ap (λ (ws : List ℕ). forwarded_value heap.edition (live heap) (slice_index ws (c.args.start + cursor.within))) words ∙ sym led
