use Rattle.std.proofs.Common.{get_or, arith}
use Rattle.heap_layout.specs.Heap.{header_at}
use Rattle.heap_layout.specs.Header.{size_of}
use Rattle.mark_tables.proofs.Runs.{IsRunSet}
use Rattle.rest_marks.proofs.LanedNext.{IsLaneStep, laned-next}
use Rattle.rest_marks.proofs.lane_looking.look_known.Goals as goal

pub returns-clause-looked : goal.returns-clause-looked
returns-clause-looked c = λ words next counted inside here at are.
    let e = c.args.edition in
    let count = c.args.count in
    let run = c.args.run.now in
    let placed = c.in_ok-place.ensures in
    let fields = c.in_ok-meet_fields.ensures in
    let set_run : IsRunSet c.args.i (size_of (header_at e run 0)) c.args.bits.now c.place.new.bits = record {
      long = c.place.ensures.length;
      below = placed.below;
      inside = placed.inside;
      above = placed.above;
    } in
    let step : IsLaneStep e count run c.args.bits.now c.place.new.bits c.meet_fields.new.known c.args.i (get_or run 0 0) = record {
      within = placed.within;
      short = placed.short;
      long = fields.long;
      runs = set_run;
      free = placed.free;
      kept = fields.kept;
      leads = fields.references;
      weak = fields.weak;
    } in
    laned-next e count words run c.args.queue.now.items c.meet_fields.new.queue.items c.args.known.now c.meet_fields.new.known c.args.bits.now c.place.new.bits next c.args.i
    counted inside here at (omega (arith, c.if-run-eq0.false)) fields.told.stay fields.told.more step are
