use Rattle.std.proofs.Common.{◌∙◌}
use Rattle.mark_job.specs.FreeLanes.{AreAny}
use Rattle.mark_job.proofs.Steps.{opens}
use Rattle.mark_job.proofs.free_lanes.FreeLanes.new.Goals as goal

pub new-requires : goal.new-requires
new-requires c =
    opens AreAny tt c.in_ok-rows.rows.items c.deref.result.now (c.deref.ensures.value ∙ c.in_ok-words.ensures.items_if_clones_equal (λ y is. is)) c.in_ok-rows.ensures (λ k lane at. tt)
