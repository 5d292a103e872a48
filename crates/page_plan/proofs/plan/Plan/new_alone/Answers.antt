use Rattle.std.proofs.Common.{length, ap, arith}
use Rattle.page_plan.proofs.Objects.{live_words-few}
use Rattle.page_plan.proofs.plan.Plan.new_alone.Goals as goal

pub first_objects-requires : goal.first_objects-requires
first_objects-requires c = omega (arith, c.in-Ok.ensures.starts.long, live_words-few c.args.heap c.in-Ok.ensures.closed, ap length c.deref.ensures.value)
