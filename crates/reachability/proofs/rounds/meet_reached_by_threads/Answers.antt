use Rattle.std.proofs.Common.{ℕ, ◌-◌, ◌≤◌, List, fold, length, get_or, sym, ap, subst, ◌∙◌, arith}
use Rattle.heap_layout.specs.Bits.{bit}
use Rattle.heap_layout.specs.Heap.{IsPlaced}
use Rattle.reachability.specs.Queue.{after_object, after_word}
use Rattle.reachability.proofs.Marking.{marking-first, marking-next, marking-placed, marking-few, all-met}
use Rattle.reachability.proofs.Parts.{marking-round, round-placed}
use Rattle.reachability.proofs.Queues.{met-had}
use Rattle.reachability.proofs.rounds.meet_reached_by_threads.Goals as goal

pub loop-next-init : goal.loop-next-init
loop-next-init g c =
    let row = bit c.args.row.now in
    let from = c.in_ok-meet_all.ensures.queue ∙ ap (λ (queue : List ℕ). fold (after_word row) queue c.args.roots.now) c.new-queue.ensures.items in
    record {
      marking = marking-first c.args.edition c.args.words.now c.args.roots.now row c.meet_all.new.queue.items c.requires.row from;
      unmet = c.in_ok-meet_all.ensures.unmet;
    }

pub returns-clause-all : goal.returns-clause-all
returns-clause-all g c = λ i reached.
    let at = c.loop-next.invariant in
    met-had c.args.row.now c.loop-next.queue.items c.loop-next.unmet i at.unmet (at.marking.objects.of_row i)
    ∙ all-met c.args.edition c.args.words.now c.args.roots.now (bit c.args.row.now) c.loop-next.queue.items c.loop-next.next c.requires.row at.marking (omega arith) i reached

pub meet_next-requires-clause-placed : goal.meet_next-requires-clause-placed
meet_next-requires-clause-placed g c =
    let at = c.loop-next in
    marking-placed c.args.edition c.args.words.now c.args.roots.now (bit c.args.row.now) at.queue.items at.next at.next c.requires.row c.requires.sound at.invariant.marking (omega arith)

pub loop-next-smaller-then-next-alone : goal.loop-next-smaller-then-next-alone
loop-next-smaller-then-next-alone g c =
    let at = c.loop-next in
    let few = marking-few c.args.edition c.args.words.now c.args.roots.now (bit c.args.row.now) at.queue.items at.next c.requires.row at.invariant.marking in
    omega arith

pub loop-next-preserved-then-next-alone : goal.loop-next-preserved-then-next-alone
loop-next-preserved-then-next-alone g c =
    let at = c.loop-next in
    record {
      marking = marking-next c.args.edition c.args.words.now c.args.roots.now (bit c.args.row.now) at.queue.items at.next c.meet_next.new.queue.items c.requires.row at.invariant.marking (omega arith) c.in_ok-meet_next.ensures.queue;
      unmet = c.in_ok-meet_next.ensures.unmet;
    }

pub meet_round-requires-clause-placed : goal.meet_round-requires-clause-placed
meet_round-requires-clause-placed g c κs within =
    let at = c.loop-next in
    round-placed c.args.edition c.args.words.now c.args.roots.now (bit c.args.row.now) at.queue.items at.next (c.end_of_round-end.result - at.next) c.requires.row c.requires.sound at.invariant.marking

pub loop-next-smaller-then-branch : goal.loop-next-smaller-then-branch
loop-next-smaller-then-branch g c =
    let at = c.loop-next in
    let above = c.end_of_round-end.ensures.above in
    let few = marking-few c.args.edition c.args.words.now c.args.roots.now (bit c.args.row.now) at.queue.items at.next c.requires.row at.invariant.marking in
    omega arith

pub loop-next-preserved-then-branch : goal.loop-next-preserved-then-branch
loop-next-preserved-then-branch g c =
    let at = c.loop-next in
    let end = c.end_of_round-end.result in
    let within : end ≤ length at.queue.items = omega (arith, c.end_of_round-end.ensures.within) in
    record {
      marking = marking-round c.args.edition c.args.words.now c.args.roots.now (bit c.args.row.now) at.queue.items at.next end c.meet_round.new.queue.items c.requires.row at.invariant.marking c.end_of_round-end.ensures.above
          within (c.in_ok-meet_round.ensures.queue c.if-branch.true);
      unmet = c.in_ok-meet_round.ensures.unmet c.if-branch.true;
    }

pub meet_next-requires-else-branch-clause-placed : goal.meet_next-requires-else-branch-clause-placed
meet_next-requires-else-branch-clause-placed g c =
    let at = c.loop-next in
    let same = c.in_ok-meet_round.ensures.same c.if-branch.false in
    subst (λ (queue : List ℕ). IsPlaced c.args.edition c.args.words.now (get_or queue at.next 0)) (sym same)
    (marking-placed c.args.edition c.args.words.now c.args.roots.now (bit c.args.row.now) at.queue.items at.next at.next c.requires.row c.requires.sound at.invariant.marking (omega arith))

pub loop-next-smaller : goal.loop-next-smaller
loop-next-smaller g c =
    let at = c.loop-next in
    let few = marking-few c.args.edition c.args.words.now c.args.roots.now (bit c.args.row.now) at.queue.items at.next c.requires.row at.invariant.marking in
    omega arith

pub loop-next-preserved : goal.loop-next-preserved
loop-next-preserved g c =
    let at = c.loop-next in
    let same = c.in_ok-meet_round.ensures.same c.if-branch.false in
    let from = c.in_ok-meet_next-2.ensures.queue ∙ ap (λ (queue : List ℕ). after_object c.args.edition c.args.words.now (bit c.args.row.now) queue (get_or queue at.next 0)) same in
    record {
      marking = marking-next c.args.edition c.args.words.now c.args.roots.now (bit c.args.row.now) at.queue.items at.next c.meet_next-else-branch.new.queue.items c.requires.row at.invariant.marking (omega arith) from;
      unmet = c.in_ok-meet_next-2.ensures.unmet;
    }
