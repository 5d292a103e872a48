use Rattle.std.proofs.Common.{◌∙◌}
use Rattle.mark_job.proofs.looking.meet_all.Goals as goal

pub loop-k-preserved : goal.loop-k-preserved
loop-k-preserved c = record {
  met = c.meet.ensures.met;
  stay = λ k within.
      let before = c.loop-k.invariant.stay k within in
      let now = c.in_ok-meet.ensures.stay k before.0 in
      (now.0, now.1 ∙ before.1);
}
