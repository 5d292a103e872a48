use Rattle.std.proofs.Common.{ℕ, ◌+◌, List, length, take, sym, subst, ap, ◌∙◌, arith}
use Rattle.std.proofs.lemmas.List.{length-take, take_all}
use mathlib.Core.Option.{some}
use Rattle.comp_mutator.specs.declared.mutator.Mutator.{Mutator}
use Rattle.comp_trace.specs.Races.{numbered, own_lines}
use Rattle.comp_trace.specs.Runners.{HaveRooms}
use Rattle.comp_trace.proofs.Elements.{at_or}
use Rattle.comp_trace.proofs.Runners.{no_rooms, rooms_more}
use Rattle.comp_trace.proofs.races.racing.rooms.Goals as goal

pub loop-m-preserved : goal.loop-m-preserved
loop-m-preserved g c =
    let i = c.loop-m.invariant in
    let m = c.m-item.result in
    record {
      rooms = subst (HaveRooms c.args.lines.now (take (c.loop-m.m-index + 1) c.args.mutators.now)) (sym c.push_reserved.ensures.items)
          (rooms_more c.args.lines.now c.args.mutators.now c.loop-m.rooms.items c.loop-m.m-index m c.in_ok-room.room i.rooms (at_or c.args.mutators.now c.loop-m.m-index m (omega arith) ∙ ap some (sym c.m-item.is)) c.in_ok-room.ensures.items
          (omega (arith, c.in_ok-room.ensures.capacity, c.requires.counts c.number.result (omega arith), ap (λ (n : ℕ). length (own_lines n (numbered 1 c.args.lines.now))) c.number.ensures)));
      room = omega (arith, i.room, c.push_reserved.ensures.capacity);
    }

pub loop-m-init : goal.loop-m-init
loop-m-init g c = record { rooms = no_rooms {L = g.row.L.Denot} c.args.lines.now c.in_ok-rooms.rooms.items c.in_ok-rooms.ensures.items; room = c.in_ok-rooms.ensures.capacity }

pub push_reserved-requires : goal.push_reserved-requires
push_reserved-requires g c =
    let i = c.loop-m.invariant in
    let k = c.loop-m.m-index in
    omega (arith, i.rooms.count, i.room, c.loop-m-test.true, c.loop-m.rooms.ok.0, length-take k c.args.mutators.now)

pub returns : goal.returns
returns g c = record { rooms = subst (λ (ms : List (Mutator g.row.L.Denot)). HaveRooms c.args.lines.now ms c.loop-m.rooms.items) (take_all c.loop-m.m-index c.args.mutators.now (omega arith)) c.loop-m.invariant.rooms }
