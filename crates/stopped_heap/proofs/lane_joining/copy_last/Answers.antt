use Rattle.std.proofs.Common.{◌≡◌, ℕ, ◌+◌, ◌-◌, ◌<◌, List, [], ◌∷◌, ◌++◌, length, get_or, set, take, drop, append_assoc, sym, ap, ◌∙◌, arith, length-take, length-drop}
use Rattle.std.proofs.lemmas.List.{drop_more, get_or-drop, set-append_right, take_all, take_more}
use Rattle.stopped_heap.proofs.lane_joining.copy_last.Goals as goal

-- one more number copied
copied-more : (from old now : List ℕ) (k n : ℕ) → k < length from → k < length old → get_or from k 0 ≡ n → now ≡ take k from ++ drop k old
    → set now k n ≡ take (k + 1) from ++ drop (k + 1) old
copied-more from old now k n inside room here is =
    let zero : k - k ≡ 0 = omega arith in
    let long : length (take k from) ≡ k = omega (arith, length-take k from, inside) in
    ap (λ (xs : List ℕ). set xs k n) (is ∙ ap (λ (xs : List ℕ). take k from ++ xs) (drop_more old k 0 room))
    ∙ set-append_right (take k from) (get_or old k 0 ∷ drop (k + 1) old) k k n long (omega arith)
    ∙ ap (λ (m : ℕ). take k from ++ set (get_or old k 0 ∷ drop (k + 1) old) m n) zero
    ∙ ap (λ (m : ℕ). take k from ++ (m ∷ drop (k + 1) old)) (sym here)
    ∙ sym (append_assoc (take k from) (get_or from k 0 ∷ []) (drop (k + 1) old))
    ∙ ap (λ (xs : List ℕ). xs ++ drop (k + 1) old) (sym (take_more from k 0 inside))

pub loop-k-preserved : goal.loop-k-preserved
loop-k-preserved c =
    let queue = c.args.queue.now in
    let first = c.args.first in
    let k = c.loop-k.k in
    let from = drop first queue in
    let inside : k < length from = omega (arith, c.loop-k-test.true, length-drop first queue) in
    copied-more from c.args.indices.now c.loop-k.indices k c.from.result inside (omega (arith, c.loop-k-test.true, c.requires.room))
    (get_or-drop first queue k 0 ∙ sym c.from.ensures) c.loop-k.invariant

pub returns : goal.returns
returns c =
    let queue = c.args.queue.now in
    let first = c.args.first in
    let k = c.loop-k.k in
    let all : k ≡ length queue - first = omega (arith, c.loop-k-test.false) in
    c.loop-k.invariant
    ∙ ap (λ (xs : List ℕ). xs ++ drop k c.args.indices.now) (take_all k (drop first queue) (omega (arith, all, length-drop first queue)))
    ∙ ap (λ (n : ℕ). drop first queue ++ drop n c.args.indices.now) all
