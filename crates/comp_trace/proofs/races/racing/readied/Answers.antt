use Rattle.std.proofs.Common.{[], ◌∷◌, ◌++◌, map, length, sym, ap, ◌∙◌, refl, arith, append_assoc}
use Rattle.std.proofs.lemmas.List.{length-map}
use lib.ListN.{get_elem?}
use Rattle.comp_mutator.proofs.Sums.{is_inside, map-snoc, each-snoc}
use Rattle.comp_trace.specs.Runners.{mutator_of, room_in, room_of, IsBlank}
use Rattle.comp_trace.proofs.OwnLines.{first_of}
use Rattle.comp_trace.proofs.Runners.{nothing_left}
use Rattle.comp_trace.proofs.races.racing.readied.Goals as goal

pub loop-mutator-preserved : goal.loop-mutator-preserved
loop-mutator-preserved g c =
    let i = c.loop-mutator.invariant in
    let rest = c.in-Some.ensures.steps.0 in
    let more = c.push_reserved.ensures.items in
    let runners = c.loop-mutator.runners.items in
    let left = c.next.new.self.rest.items in
    let m = c.in-Some.mutator in
    let shown = c.remove-shown.result in
    let one = first_of room_in c.loop-mutator.rooms.items shown (omega (arith, i.left, ap length rest)) c.remove-shown.ensures.value in
    record {
      mutators = ap (λ l. map mutator_of l ++ left) more ∙ ap (λ l. l ++ left) (map-snoc mutator_of runners _) ∙ append_assoc (map mutator_of runners) (m ∷ []) left ∙ ap (λ l. map mutator_of runners ++ l) (sym rest) ∙ i.mutators;
      rooms = ap (λ l. map room_of l ++ map room_in c.remove-shown.new.self.items) more ∙ ap (λ l. l ++ map room_in c.remove-shown.new.self.items) (map-snoc room_of runners _)
          ∙ append_assoc (map room_of runners) (room_in shown ∷ []) (map room_in c.remove-shown.new.self.items)
          ∙ ap (λ l. map room_of runners ++ l) (ap (λ r. room_in shown ∷ map room_in r) c.remove-shown.ensures.items ∙ sym one) ∙ i.rooms;
      blank = λ j x at. each-snoc IsBlank runners _ i.blank (refl, refl) j x (sym (ap (λ l. get_elem? l j) more) ∙ at);
      left = omega (arith, i.left, ap length rest, c.remove-shown.ensures.len, c.loop-mutator.rooms.ok.0, c.remove-shown.new.self.ok.0);
      room = omega (arith, i.room, ap length rest, c.push_reserved.ensures.len, c.loop-mutator.runners.ok.0, c.push_reserved.new.self.ok.0, c.push_reserved.ensures.capacity);
    }

pub loop-mutator-init : goal.loop-mutator-init
loop-mutator-init g c =
    let none = c.requires.empty.0 in
    let rest = c.into_iter-mutator-iterator.ensures.into_iter_gives.0 in
    let left = c.into_iter-mutator-iterator.result.rest.items in
    record {
      mutators = ap (λ l. map mutator_of l ++ left) none ∙ rest;
      rooms = ap (λ l. map room_of l ++ map room_in c.args.rooms.items) none;
      blank = λ j x at. absurd (omega (arith, is_inside c.args.runners.items j x at, ap length none));
      left = c.requires.rooms ∙ sym (ap length rest);
      room = omega (arith, ap length none, c.requires.empty.1, ap length rest);
    }

pub push_reserved-requires : goal.push_reserved-requires
push_reserved-requires g c = omega (arith, c.loop-mutator.invariant.room, ap length c.in-Some.ensures.steps.0, c.loop-mutator.runners.ok.0)

pub returns-clause-mutators : goal.returns-clause-mutators
returns-clause-mutators g c =
    let l = c.loop-mutator in
    let rest = l.mutator-iterator.rest in
    nothing_left (map mutator_of l.runners.items) rest.items c.args.mutators.items (omega (arith, c.in-None.ensures.steps.0, rest.ok.0)) l.invariant.mutators

pub returns-clause-rooms : goal.returns-clause-rooms
returns-clause-rooms g c =
    let l = c.loop-mutator in
    let rest = l.mutator-iterator.rest in
    nothing_left (map room_of l.runners.items) (map room_in l.rooms.items) (map room_in c.args.rooms.items) (omega (arith, c.in-None.ensures.steps.0, rest.ok.0, l.invariant.left, length-map l.rooms.items room_in)) l.invariant.rooms
