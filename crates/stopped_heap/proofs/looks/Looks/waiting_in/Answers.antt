use Rattle.std.proofs.Common.{◌≡◌, ℕ, ◌+◌, ◌-◌, ◌<◌, List, [], ◌∷◌, ◌++◌, length, get_or, set, take, drop, append_assoc, min, sym, ap, subst, ◌∙◌, arith, length-take, length-drop}
use Rattle.std.proofs.lemmas.List.{drop_more, get_or_default, get_or-drop, set-append_right, take_more}
use Rattle.rest_marks.specs.Looks.{Looking}
use Rattle.stopped_heap.proofs.looks.Looks.waiting_in.Goals as goal

-- one more number copied
copied-more : (from old now : List ℕ) (k n : ℕ) → k < length from → k < length old → get_or from k 0 ≡ n → now ≡ take k from ++ drop k old
    → set now k n ≡ take (k + 1) from ++ drop (k + 1) old
copied-more from old now k n inside room here is =
    let zero : k - k ≡ 0 = omega arith in
    let long : length (take k from) ≡ k = omega (arith, length-take k from, inside) in
    ap (λ (xs : List ℕ). set xs k n) (is ∙ ap (λ (xs : List ℕ). take k from ++ xs) (drop_more old k 0 room))
    ∙ set-append_right (take k from) (get_or old k 0 ∷ drop (k + 1) old) k k n long (omega arith)
    ∙ ap (λ (m : ℕ). take k from ++ set (get_or old k 0 ∷ drop (k + 1) old) m n) zero
    ∙ ap (λ (m : ℕ). take k from ++ (m ∷ drop (k + 1) old)) (sym here)
    ∙ sym (append_assoc (take k from) (get_or from k 0 ∷ []) (drop (k + 1) old))
    ∙ ap (λ (xs : List ℕ). xs ++ drop (k + 1) old) (sym (take_more from k 0 inside))

pub loop-k-preserved : goal.loop-k-preserved
loop-k-preserved c =
    let s = c.args.self.now in
    let k = c.loop-k.k in
    let queue = c.self.inside.queue.items in
    let next = c.self.inside.next in
    let many : c.min-many.result ≡ min (c.len.result - next) (length c.args.indices.now) = c.min-many.ensures in
    let within : next + k < length queue = omega (arith, c.loop-k-test.true, many, c.len.ensures) in
    let room : k < length c.args.indices.now = omega (arith, c.loop-k-test.true, many) in
    let here : get_or queue (next + k) 0 ≡ c.from.result = get_or_default queue (next + k) 0 c.index.result.now within ∙ sym c.index.ensures ∙ sym c.from.ensures in
    let seen = subst (λ (s : Looking). (k < length (drop s.looked s.met)) × (get_or (drop s.looked s.met) k 0 ≡ c.from.result)) c.self.view_is
    (omega (arith, length-drop next queue, within), get_or-drop next queue k 0 ∙ here) in
    copied-more (drop s.looked s.met) c.args.indices.now c.loop-k.indices k c.from.result seen.0 room seen.1 c.loop-k.invariant
