use Rattle.std.proofs.Common.{◌∙◌}
use Rattle.mark_job.proofs.MarkedMore.{marked-more}
use Rattle.mark_job.proofs.marking.begin_with_all.Goals as goal

pub loop-k-preserved : goal.loop-k-preserved
loop-k-preserved c = record {
  long = c.begin_with.ensures.length ∙ c.loop-k.invariant.long;
  marked = marked-more c.args.count c.args.from.now c.loop-k.heads c.begin_with.new.heads c.loop-k.k c.loop-k.invariant.marked c.begin_with.ensures.stay c.in_ok-begin_with.ensures.marked;
}
