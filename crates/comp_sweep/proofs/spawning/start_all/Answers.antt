use Rattle.std.specs.List.{AllZip}
use Rattle.std.proofs.Common.{◌≡◌, ◌++◌, [], ◌∷◌, length, arith, subst, sym, ap, ◌∙◌}
use Rattle.std.proofs.lemmas.List.{nil_from_length}
use Rattle.comp_sweep.specs.Workers.{HasBegun}
use Rattle.comp_sweep.proofs.SideBySide.{all_taken, each_mid, moved, room_next, zip_end}
use Rattle.comp_sweep.proofs.spawning.start_all.Goals as goal

pub start-requires-after_bounds : goal.start-requires-after_bounds
start-requires-after_bounds g c κs within =
    let h = c.loop-worker.invariant.begun in
    each_mid _ c.args.workers.items h.0 c.in-Some.worker c.next.new.self.rest.items (ap (λ l. h.0 ++ l) (sym c.in-Some.ensures.steps.0) ∙ h.1) c.requires.ready

pub loop-worker-init : goal.loop-worker-init
loop-worker-init g c =
    let gives = c.into_iter-worker-iterator.ensures.into_iter_gives.0 in
    let none = c.requires.room.0 in record {
      begun = ([], gives, subst (AllZip (HasBegun c.args.space.now) []) (sym none) tt);
      room = omega (arith, ap length gives, ap length none, c.requires.room.1);
    }

pub loop-worker-preserved : goal.loop-worker-preserved
loop-worker-preserved g c =
    let h = c.loop-worker.invariant.begun in record {
      begun = (
        h.0 ++ c.in-Some.worker ∷ [],
        moved h.0 c.in-Some.worker c.next.new.self.rest.items c.loop-worker.worker-iterator.rest.items c.args.workers.items c.in-Some.ensures.steps.0 h.1,
        subst (AllZip (HasBegun c.args.space.now) (h.0 ++ c.in-Some.worker ∷ [])) (sym c.push_reserved.ensures.items)
            (zip_end (HasBegun c.args.space.now) h.0 c.loop-worker.started.items c.in-Some.worker c.start.result h.2 c.start.ensures),
      );
      room = room_next c.loop-worker.started.items c.push_reserved.new.self.items _ c.next.new.self.rest.items c.loop-worker.worker-iterator.rest.items c.in-Some.worker _ _
          c.push_reserved.ensures.items c.in-Some.ensures.steps.0 c.push_reserved.ensures.capacity c.loop-worker.invariant.room;
    }

pub returns : goal.returns
returns g c =
    let h = c.loop-worker.invariant.begun in
    let zero : length c.loop-worker.worker-iterator.rest.items ≡ 0 = omega (arith, c.in-None.ensures.steps.0, c.loop-worker.worker-iterator.rest.ok) in
    let none : c.loop-worker.worker-iterator.rest.items ≡ [] = nil_from_length c.loop-worker.worker-iterator.rest.items zero in
    subst (λ l. AllZip (HasBegun c.args.space.now) l c.loop-worker.started.items) (all_taken h.0 c.loop-worker.worker-iterator.rest.items c.args.workers.items none h.1) h.2
