use Rattle.std.proofs.Common.{get_or, arith}
use Rattle.heap_layout.specs.Heap.{object_at}
use Rattle.rest_marks.proofs.LookedAt.{IsAgain, looked-again, places-kept}
use Rattle.rest_marks.proofs.looking_at.look_again_at.Goals as goal

pub returns-clause-looked : goal.returns-clause-looked
returns-clause-looked c = λ before now bits next counted_before counted inside at same are.
    let e = c.args.edition in
    let count = c.args.count in
    let run = c.args.run.now in
    let old = c.args.queue.now.items in
    let fields = c.in_ok-meet_fields.ensures in
    let step : IsAgain e count run old c.meet_fields.new.queue.items (get_or run 0 0) = record {
      long = fields.long;
      met = fields.queue;
      leads = fields.references;
      weak = fields.weak;
    } in
    looked-again e count before now run old c.meet_fields.new.queue.items c.args.heads.now c.meet_fields.new.heads bits next c.args.i counted_before counted inside
    at (omega (arith, c.if-run-eq0.false)) c.requires.met fields.met step same are

pub returns-clause-stay : goal.returns-clause-stay
returns-clause-stay c = λ k lt. places-kept c.args.count c.args.queue.now.items c.meet_fields.new.queue.items (object_at c.args.edition c.args.run.now 0).references c.in_ok-meet_fields.ensures.queue k lt
