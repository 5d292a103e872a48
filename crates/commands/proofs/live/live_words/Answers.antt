use Rattle.std.proofs.Common.{◌≡◌, ◌<◌, ◌∙◌, ℕ, List, length, get_or, sym, ap, arith}
use Rattle.heap_layout.specs.Header.{size_of}
use Rattle.heap_layout.specs.Heap.{header_at}
use Rattle.mark_tables.proofs.Sizes.{live_words-all, live_words-next, words-below}
use Rattle.commands.proofs.live.live_words.Goals as goal

-- The words so far are below the next mark.
pub overflow_add-words : goal.overflow_add-words
overflow_add-words c =
    let heap = c.args.heap.now in
    let k = c.loop-mark.mark-index in
    let marks = c.marks-mark-items.ensures.marks in
    let lt : k < length heap.marks = omega (arith, ap length marks) in
    let below = words-below heap c.marks-mark-items.ensures.closed k lt in
    omega (arith, c.loop-mark.invariant, below, ap (λ (xs : List ℕ). get_or xs k 0) marks, c.from-words.ensures)

-- One object more.
pub loop-mark-preserved : goal.loop-mark-preserved
loop-mark-preserved c =
    let heap = c.args.heap.now in
    let k = c.loop-mark.mark-index in
    let marks = c.marks-mark-items.ensures.marks in
    let lt : k < length heap.marks = omega (arith, ap length marks) in
    let sized : size_of (header_at heap.edition heap.words (get_or heap.marks k 0)) ≡ c.size.result =
    ap (λ (xs : List ℕ). size_of (header_at heap.edition heap.words (get_or xs k 0))) (sym marks) ∙ sym (c.size.ensures ∙ ap size_of c.header_at.ensures) in
    let more = live_words-next heap.edition heap.words heap.marks k lt in
    omega (arith, c.loop-mark.invariant, more, sized, c.from-words.ensures)

-- All objects.
pub returns : goal.returns
returns c =
    let heap = c.args.heap.now in
    let k = c.loop-mark.mark-index in
    c.loop-mark.invariant
    ∙ live_words-all heap.edition heap.words heap.marks k (omega (arith, ap length c.marks-mark-items.ensures.marks))
