use Rattle.std.proofs.Common.{arith}
use Rattle.mark_job.specs.FreeLanes.{AreAny}
use Rattle.mark_job.proofs.Steps.{take-allowed}
use Rattle.mark_job.proofs.free_lanes.FreeLanes.take.Goals as goal

pub swap_new_seat-found-requires : goal.swap_new_seat-found-requires
swap_new_seat-found-requires c =
    let table = c.args.self.now.table.shared in
    (omega (arith, c.requires, c.args.self.now.words), take-allowed (λ (view : Unit {0}). AreAny) tt table.table_id.slots c.args.k (omega (arith, c.requires, c.args.self.now.slots)))
