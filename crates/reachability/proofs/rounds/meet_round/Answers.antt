use Rattle.std.proofs.Common.{◌≡◌, ℕ, ◌+◌, ◌-◌, ◌*◌, ◌/◌, ◌%◌, ◌<◌, ◌≤◌, List, [], IfOk, All, fold, length, get_or, take, drop, min, ap, subst, ◌∙◌, arith, rules}
use Rattle.std.specs.Vec.{vec_len}
use Rattle.std.proofs.lemmas.Grind.{div_ceil_times}
use Rattle.heap_layout.specs.Bits.{bit}
use Rattle.reachability.specs.Queue.{after_part, found_more, IsFound}
use Rattle.reachability.proofs.Parts.{AreParts, parts-found}
use Rattle.reachability.proofs.rounds.meet_round.Goals as goal

pub returns-clause-queue : goal.returns-clause-queue
returns-clause-queue g c done =
    let edition = c.args.edition in
    let words = c.args.words.now in
    let row = bit c.args.row.now in
    let bits = bit c.args.unmet.now in
    let queue = c.args.queue.now.items in
    let waiting = c.args.end - c.args.next in
    let objects = take waiting (drop c.args.next queue) in
    let size = c.max-size.result in
    let parts = c.in-Ok.parts.items in
    let same : c.deref-3.result.now ≡ parts = c.deref-3.ensures.value in
    let at : take waiting (drop c.args.next c.deref.result.now) ≡ objects = ap (λ (xs : List ℕ). take waiting (drop c.args.next xs)) c.deref.ensures.value in
    let some : 0 < size = search rules in
    let count : length parts ≡ vec_len c.in-Ok.parts = omega arith in
    let long : length parts ≡ length objects / size + min 1 (length objects % size) =
    count ∙ c.in-Ok.ensures.len ∙ ap (λ (xs : List ℕ). length xs / size + min 1 (length xs % size)) at in
    let ceil = (div_ceil_times (length objects) size some).0 in
    let enough : length objects ≤ length parts * size = rw long ceil in
    let of : AreParts edition words bits size objects parts = λ n d within.
    let k = (c.in-Ok.ensures.each n d within).1 in
    subst (λ (xs : List ℕ). IfOk (get_or parts n d) (λ found. found.items ≡ fold (found_more edition words bits) [] xs)) (k.argument_is.value ∙ ap (λ (xs : List ℕ). take size (drop (n * size) xs)) at) k.call in
    c.in_ok-meet_parts.ensures.queue ∙ ap (fold (after_part row) queue) same
    ∙ parts-found edition words row queue bits size queue objects parts c.requires.unmet (λ i there. there) (subst (All IsFound) same c.in_ok-meet_parts.ensures.found) enough of
