use Rattle.mark_job.proofs.Growing.{enter-allowed}
use Rattle.mark_job.proofs.heads.Heads.enter.Goals as goal

pub load_new_seat-seat-requires : goal.load_new_seat-seat-requires
load_new_seat-seat-requires c =
    let table = c.args.self.now.table.shared in
    (c.requires, enter-allowed table.key table.table_id.slots 0)
