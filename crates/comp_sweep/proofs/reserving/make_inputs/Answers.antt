use Rattle.std.proofs.Common.{◌++◌, length, map, arith, refl, sym, ap, subst, ◌∙◌}
use Rattle.std.proofs.lemmas.List.{nil_from_length}
use mathlib.Core.Option.{some-ne-none}
use Rattle.comp_mutator.specs.Lists.{Each}
use Rattle.comp_mutator.proofs.Sums.{each-snoc}
use Rattle.comp_sweep.specs.Workers.{input_queue, HasNoRegion}
use Rattle.comp_sweep.proofs.SideBySide.{all_taken, mapped, room_next}
use Rattle.comp_sweep.proofs.reserving.make_inputs.Goals as goal

pub loop-queue-preserved : goal.loop-queue-preserved
loop-queue-preserved g c =
    let inv = c.loop-queue.invariant in
    let old = c.loop-queue.inputs.items in
    let new = c.push_reserved.new.self in
    let rest = c.next.new.self.rest.items in record {
      made = mapped input_queue old _ new.items c.in-Some.queue rest c.loop-queue.queue-iterator.rest.items c.args.queues.items
          c.push_reserved.ensures.items refl c.in-Some.ensures.steps.0 inv.made;
      none = subst (λ l. Each l HasNoRegion) (sym c.push_reserved.ensures.items) (each-snoc HasNoRegion old _ inv.none c.in_ok-with_capacity.ensures.items);
      room = room_next old new.items _ rest c.loop-queue.queue-iterator.rest.items c.in-Some.queue _ _ c.push_reserved.ensures.items c.in-Some.ensures.steps.0
          c.push_reserved.ensures.capacity inv.room;
    }

pub loop-queue-init : goal.loop-queue-init
loop-queue-init g c =
    let gives = c.into_iter-queue-iterator.ensures.into_iter_gives.0 in
    let none = c.in_ok-inputs.ensures.items in record {
      made = ap (λ l. map input_queue l ++ c.into_iter-queue-iterator.result.rest.items) none ∙ gives;
      none = subst (λ l. Each l HasNoRegion) (sym none) (λ j x at. absurd (some-ne-none x (sym at)));
      room = omega (arith, ap length none, ap length gives, c.in_ok-inputs.ensures.capacity, c.len.ensures);
    }

pub returns-clause-queues : goal.returns-clause-queues
returns-clause-queues g c =
    let rest = c.loop-queue.queue-iterator.rest in
    let none = nil_from_length rest.items (omega (arith, c.in-None.ensures.steps.0, rest.ok)) in
    all_taken (map input_queue c.loop-queue.inputs.items) rest.items c.args.queues.items none c.loop-queue.invariant.made
