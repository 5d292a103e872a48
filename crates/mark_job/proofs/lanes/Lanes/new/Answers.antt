use Rattle.std.proofs.Common.{◌∙◌}
use Rattle.mark_job.specs.Asked.{AreMetIn}
use Rattle.mark_job.specs.Lanes.{first_view}
use Rattle.mark_job.proofs.Steps.{opens, at-rows}
use Rattle.mark_job.proofs.lanes.Lanes.new.Goals as goal

pub new-requires : goal.new-requires
new-requires c =
    opens (AreMetIn c.args.image.now) (first_view c.args.image.now) c.in_ok-rows.rows.items c.deref.result.now (c.deref.ensures.value ∙ c.in_ok-words.ensures.items_if_clones_equal (λ y is. is)) c.in_ok-rows.ensures.count
    (λ k lane at. at-rows (AreMetIn c.args.image.now) c.in_ok-rows.rows.items k lane c.in_ok-rows.ensures.met at)
