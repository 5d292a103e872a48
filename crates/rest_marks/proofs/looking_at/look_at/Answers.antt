use Rattle.std.proofs.Common.{get_or, arith}
use Rattle.heap_layout.specs.Heap.{header_at, object_at}
use Rattle.heap_layout.specs.Header.{size_of}
use Rattle.mark_tables.proofs.Runs.{IsRunSet}
use Rattle.rest_marks.proofs.LookedAt.{IsStep, looked-next, places-kept}
use Rattle.rest_marks.proofs.looking_at.look_at.Goals as goal

pub returns-clause-looked : goal.returns-clause-looked
returns-clause-looked c = λ words next counted inside here at are.
    let e = c.args.edition in
    let count = c.args.count in
    let run = c.args.run.now in
    let old = c.args.queue.now.items in
    let placed = c.in_ok-place.ensures in
    let fields = c.in_ok-meet_fields.ensures in
    let set_run : IsRunSet c.args.i (size_of (header_at e run 0)) c.args.bits.now c.place.new.bits = record {
      long = c.place.ensures.length;
      below = placed.below;
      inside = placed.inside;
      above = placed.above;
    } in
    let step : IsStep e count run old c.meet_fields.new.queue.items c.args.bits.now c.place.new.bits c.args.i (get_or run 0 0) = record {
      within = placed.within;
      short = placed.short;
      long = fields.long;
      met = fields.queue;
      runs = set_run;
      free = placed.free;
      leads = fields.references;
      weak = fields.weak;
    } in
    looked-next e count words run old c.meet_fields.new.queue.items c.args.heads.now c.args.bits.now c.meet_fields.new.heads c.place.new.bits next c.args.i
    counted inside here at (omega (arith, c.if-run-eq0.false)) c.requires.met fields.met c.requires.long
    (omega (arith, c.meet_fields.ensures.heads, c.place.ensures.length, c.requires.long)) step are

pub returns-clause-stay : goal.returns-clause-stay
returns-clause-stay c = λ k lt. places-kept c.args.count c.args.queue.now.items c.meet_fields.new.queue.items (object_at c.args.edition c.args.run.now 0).references c.in_ok-meet_fields.ensures.queue k lt
