use Rattle.std.proofs.Common.{◌∙◌}
use Rattle.mark_job.proofs.MarkedMore.{marked-more}
use Rattle.mark_job.proofs.following.Marks.meet_each.Goals as goal

pub loop-k-preserved : goal.loop-k-preserved
loop-k-preserved c = record {
  marked = marked-more c.args.self.now.count c.args.from.now c.loop-k.met.bits c.meet.new.met.bits c.loop-k.k c.loop-k.invariant.marked c.meet.ensures.stay c.in_ok-meet.ensures.met;
  table = c.meet.ensures.table ∙ c.loop-k.invariant.table;
  stay = λ i is. c.meet.ensures.stay i (c.loop-k.invariant.stay i is);
  places = λ k within.
      let before = c.loop-k.invariant.places k within in
      let now = c.in_ok-meet.ensures.places k before.0 in
      (now.0, now.1 ∙ before.1);
}
