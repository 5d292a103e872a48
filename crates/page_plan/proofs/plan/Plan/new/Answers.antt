use Rattle.std.proofs.Common.{length, ap, arith}
use Rattle.page_plan.proofs.Objects.{live_words-few}
use Rattle.page_plan.proofs.plan.Plan.new.Goals as goal

pub first_objects-requires : goal.first_objects-requires
first_objects-requires g c = omega (arith, c.in_ok-tables.ensures.starts.long, live_words-few c.args.heap c.in_ok-tables.ensures.closed, ap length c.deref.ensures.value)
