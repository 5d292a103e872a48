use Rattle.std.proofs.Common.{◌≡◌, ◌+◌, ◌∙◌, sym, arith}
use Rattle.std.proofs.lemmas.Result.{err_from_is_err_and}
use Rattle.stopped_heap.proofs.Listing.{listed-met, listed-more, listed-next, listed-none, listed-same, once-wider}
use Rattle.rest_marks.proofs.Queued.{once-short}
use Rattle.stopped_heap.proofs.regrowing.put_queue.Goals as goal
use Rattle.stopped_heap.proofs.regrowing.put_queue.Goals.{then-is_set+in_ok-push, else-is_set}

pub loop-i-init : goal.loop-i-init
loop-i-init c = record {
  listed = rw c.clear.ensures.items (listed-none c.args.heads.now);
  room = omega (arith, c.clear.ensures.capacity);
}

pub loop-i-preserved : goal.loop-i-preserved
loop-i-preserved c =
    let heads = c.args.heads.now in
    let i = c.loop-i.i in
    let queue = c.loop-i.queue.items in
    let before = c.loop-i.invariant.listed in
    elim c.if-is_set.branch [
      | then-is_set+in_ok-push w ↦ rw w.queue-is (record {
        listed = rw w.in_ok-push.ensures.items (listed-more heads i queue before (sym c.is_set.ensures ∙ w.if-is_set.true));
        room = omega (arith, c.loop-i.invariant.room, w.push.ensures.capacity);
      })
      | else-is_set w ↦ rw w.queue-is (record {
        listed = listed-same heads i queue before (sym c.is_set.ensures ∙ w.if-is_set.false);
        room = c.loop-i.invariant.room;
      })
    ]

pub returns-in_err-push-clause-short : goal.returns-in_err-push-clause-short
returns-in_err-push-clause-short c =
    let i = c.loop-i.i in
    let queue = c.loop-i.queue.items in
    let before = c.loop-i.invariant.listed in
    let few = once-short (i + 1) queue i (once-wider i queue before.once) (omega arith) (listed-next c.args.heads.now i queue before) in
    let p = err_from_is_err_and c.from_residual.result c.from_residual.ensures.1 in
    rw p.1 (omega (arith, few, c.in_err-push.ensures.full, c.loop-i.invariant.room, c.loop-i-test.true))
