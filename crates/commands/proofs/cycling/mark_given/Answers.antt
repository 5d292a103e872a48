use Rattle.heap_layout.specs.Heap.{Heap}
use Rattle.std.proofs.Common.{None, Some, subst}
use Rattle.command_io.specs.declared.refusal.CommandRefusal.TheVariants.{Layout}
use Rattle.commands.specs.Following.{IsNextHeap, IsUnmarked}
use Rattle.commands.proofs.cycling.mark_given.Goals as goal

pub returns-in-Ok-clause-next : goal.returns-in-Ok-clause-next
returns-in-Ok-clause-next c =
    let made = c.in-Ok.ensures in
    let given = Some c.args.marks.items in
    let next : IsNextHeap c.deref.result.now c.args.finished given None c.in-Ok.heap = record {
      ended = record { cycle = made.cycle; marked = made.marked };
      chapter = made.chapter;
      keeps = made.keeps;
      next_is = made.next;
      stored = made.stored;
      accepted = made.accepted;
    } in
    subst (λ (heap : Heap). IsNextHeap heap c.args.finished given None c.in-Ok.heap) c.deref.ensures next

pub returns-clause-refused : goal.returns-clause-refused
returns-clause-refused c =
    subst (λ (heap : Heap). IsUnmarked heap c.args.finished (Some c.args.marks.items) None (Layout c.in-Err.left.fault)) c.deref.ensures c.in-Err.ensures.refused
