use Rattle.std.proofs.Common.{arith}
use Rattle.heap_layout.proofs.Bounds.{pages_fit}
use Rattle.page_plan.proofs.plan.Plan.pages.Goals as goal

pub returns-clause-few : goal.returns-clause-few
returns-clause-few c = omega (arith, pages_fit c.args.self.now.edition c.live_words.result c.live_words.ensures.few)
