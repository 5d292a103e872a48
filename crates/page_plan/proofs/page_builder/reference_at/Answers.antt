use Rattle.std.proofs.Common.{◌≡◌, ◌+◌, ◌-◌, ℕ, List, Option, slice_index, unwrap_or, refl, sym, ap, ◌∙◌, arith}
use Rattle.heap_layout.specs.Heap.{live, IsClosed}
use Rattle.heap_layout.specs.declared.kind.Kind.TheVariants.{Reference}
use Rattle.page_plan.specs.Sliding.{forwarded_value}
use Rattle.page_plan.proofs.Objects.{reference-target, word-led}
use Rattle.page_plan.proofs.page_builder.reference_at.Goals as goal

pub forward_word-requires : goal.forward_word-requires
forward_word-requires c =
    let heap = c.args.plan.now in
    let cursor = c.args.cursor in
    let words : c.words.result.now ≡ heap.words = cc in
    let closed : IsClosed heap = rw c.heap.ensures at c.words.ensures.closed in
    let ends = rw c.requires.start at c.requires.ends in
    rw (words, c.requires.start)
    (reference-target heap closed cursor.number cursor.within c.requires.known (omega (arith, c.requires.after)) (omega (arith, ends, c.requires.before)))

pub returns : goal.returns
returns c =
    let heap = c.args.plan.now in
    let cursor = c.args.cursor in
    let words : c.words.result.now ≡ heap.words = cc in
    let closed : IsClosed heap = rw c.heap.ensures at c.words.ensures.closed in
    let ends = rw c.requires.start at c.requires.ends in
    let led = word-led heap closed cursor.number cursor.within c.args.start cursor.new_index Reference c.requires.known c.requires.start
    (c.requires.at.at c.requires.known) (cursor.within - 1, omega (arith, c.requires.after), omega (arith, c.requires.after, ends, c.requires.before)) refl in
    sym (ap (λ (new_index : Option ℕ). unwrap_or new_index 0) c.forward_word.ensures)
    ∙ ap (λ (ws : List ℕ). forwarded_value heap.edition (live heap) (slice_index ws (c.args.start + cursor.within))) words ∙ sym led
