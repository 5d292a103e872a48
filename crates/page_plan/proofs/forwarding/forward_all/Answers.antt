use Rattle.std.proofs.Common.{◌≡◌, ℕ, ◌+◌, ◌<◌, Option, Some, List, [], ◌∷◌, ◌++◌, length, get_or, map, take, ap, ◌∙◌}
use Rattle.std.proofs.lemmas.List.{map-append, take_all, take_more}
use Rattle.heap_layout.specs.Heap.{live}
use Rattle.page_plan.specs.Sliding.{forward_value}
use Rattle.page_plan.proofs.forwarding.forward_all.Goals as goal

-- one reference more
led-next : (lead : ℕ → Option ℕ) (references addresses : List ℕ) (i new_index : ℕ) → i < length references → map (λ p. Some p) addresses ≡ map lead (take i references)
    → lead (get_or references i 0) ≡ Some new_index → map (λ p. Some p) (addresses ++ new_index ∷ []) ≡ map lead (take (i + 1) references)
led-next lead references addresses i new_index lt led leads =
    rw (take_more references i 0 lt, map-append (λ (p : ℕ). Some p) addresses (new_index ∷ []), map-append lead (take i references) (get_or references i 0 ∷ []), led, leads)

pub loop-reference-preserved : goal.loop-reference-preserved
loop-reference-preserved c =
    let loop = c.loop-reference in
    rw c.in_ok-push.ensures.items
    (led-next (forward_value c.args.plan.now.edition (live c.args.plan.now)) c.args.references.now loop.addresses.items loop.reference-index c.forward_word.result c.loop-reference-test.true loop.invariant c.forward_word.ensures)

pub returns : goal.returns
returns c =
    let all : take c.loop-reference.reference-index c.args.references.now ≡ c.args.references.now = take_all _ _ c.loop-reference-test.false in
    c.loop-reference.invariant ∙ ap (map (forward_value c.args.plan.now.edition (live c.args.plan.now))) all
