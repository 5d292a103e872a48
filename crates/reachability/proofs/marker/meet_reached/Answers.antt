use Rattle.std.proofs.Common.{◌≡◌, ℕ, ◌<◌, List, fold, length, get_or, sym, ap, subst, ◌∙◌, arith}
use Rattle.std.proofs.lemmas.List.{get_or_default}
use Rattle.heap_layout.specs.Bits.{bit}
use Rattle.heap_layout.specs.Heap.{IsPlaced}
use Rattle.reachability.specs.Queue.{after_word}
use Rattle.reachability.proofs.Marking.{references_of, marking-first, marking-next, marking-placed, marking-few, all-met}
use Rattle.reachability.proofs.Queues.{unmet-first, met-had}
use Rattle.reachability.proofs.marker.meet_reached.Goals as goal

pub loop-next-init : goal.loop-next-init
loop-next-init c =
    let row = bit c.args.row.now in
    let from = c.in_ok-meet_all.ensures.queue ∙ ap (λ (queue : List ℕ). fold (after_word row) queue c.args.roots.now) c.new-queue.ensures.items in
    record {
      marking = marking-first c.args.edition c.args.words.now c.args.roots.now row c.meet_all.new.queue.items c.requires.row from;
      unmet = c.in_ok-meet_all.ensures.unmet;
    }

pub references-requires-clause-placed : goal.references-requires-clause-placed
references-requires-clause-placed c =
    let queue = c.loop-next.queue.items in
    let within : c.loop-next.next < length queue = omega arith in
    let here : get_or queue c.loop-next.next 0 ≡ c.index.result.now = get_or_default queue c.loop-next.next 0 c.index.result.now within ∙ sym c.index.ensures in
    subst (IsPlaced c.args.edition c.args.words.now) here
    (marking-placed c.args.edition c.args.words.now c.args.roots.now (bit c.args.row.now) queue c.loop-next.next c.loop-next.next c.requires.row c.requires.sound c.loop-next.invariant.marking within)

pub loop-next-smaller : goal.loop-next-smaller
loop-next-smaller c =
    let few = marking-few c.args.edition c.args.words.now c.args.roots.now (bit c.args.row.now) c.loop-next.queue.items c.loop-next.next c.requires.row c.loop-next.invariant.marking in
    omega arith

pub loop-next-preserved : goal.loop-next-preserved
loop-next-preserved c =
    let row = bit c.args.row.now in
    let old = c.loop-next.queue.items in
    let within : c.loop-next.next < length old = omega arith in
    let here : c.index.result.now ≡ get_or old c.loop-next.next 0 = c.index.ensures ∙ get_or_default old c.loop-next.next c.index.result.now 0 within in
    let from = c.in_ok-meet_all-2.ensures.queue ∙ ap (fold (after_word row) old) (c.references.ensures ∙ ap (references_of c.args.edition c.args.words.now) here) in
    record {
      marking = marking-next c.args.edition c.args.words.now c.args.roots.now row old c.loop-next.next c.meet_all-in-loop-next.new.queue.items c.requires.row c.loop-next.invariant.marking within from;
      unmet = c.in_ok-meet_all-2.ensures.unmet;
    }

pub returns-clause-reachable : goal.returns-clause-reachable
returns-clause-reachable c = λ i met.
    let at = c.loop-next.invariant in
    at.marking.objects.holds i (sym (met-had c.args.row.now c.loop-next.queue.items c.loop-next.unmet i at.unmet (at.marking.objects.of_row i)) ∙ met)

pub returns-clause-all : goal.returns-clause-all
returns-clause-all c = λ i reached.
    let at = c.loop-next.invariant in
    met-had c.args.row.now c.loop-next.queue.items c.loop-next.unmet i at.unmet (at.marking.objects.of_row i)
    ∙ all-met c.args.edition c.args.words.now c.args.roots.now (bit c.args.row.now) c.loop-next.queue.items c.loop-next.next c.requires.row at.marking (omega arith) i reached

pub meet_all-requires-clause-unmet : goal.meet_all-requires-clause-unmet
meet_all-requires-clause-unmet c = rw (c.requires.unmet, c.new-queue.ensures.items) (unmet-first c.args.row.now)
