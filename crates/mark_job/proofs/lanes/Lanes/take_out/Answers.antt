use Rattle.std.proofs.Common.{arith}
use Rattle.mark_job.specs.Asked.{AreMetIn}
use Rattle.mark_job.specs.Lanes.{first_view}
use Rattle.mark_job.specs.declared.view.View.{View}
use Rattle.mark_job.proofs.Steps.{take-allowed}
use Rattle.mark_job.proofs.lanes.Lanes.take_out.Goals as goal

pub swap_new_seat-found-requires : goal.swap_new_seat-found-requires
swap_new_seat-found-requires c =
    let table = c.args.self.now.table.shared in
    (omega (arith, c.requires, c.args.self.now.words), take-allowed (λ (view : View). AreMetIn view.about) (first_view table.key) table.table_id.slots c.args.k (omega (arith, c.requires, c.args.self.now.slots)))
