use Rattle.std.proofs.Common.{◌/◌, ◌%◌, refl, ap, ◌∙◌, bit_or, arith}
use Rattle.mark_tables.proofs.Masks.{or-sets}
use Rattle.mark_job.specs.Met.{KnownMet}
use Rattle.mark_job.proofs.Growing.{see-allowed}
use Rattle.mark_job.proofs.heads.Heads.sets.Goals as goal

pub fetch_or-found-requires : goal.fetch_or-found-requires
fetch_or-found-requires c =
    let table = c.args.self.now.table.shared in
    let seat = c.met.inside.seat in
    let m = c.block_of-bit.result in (
      ap (λ (met : KnownMet). met.table) c.met.view_is ∙ c.requires.table,
      omega (arith, c.requires.inside),
      see-allowed table.key table.table_id.slots seat.id (c.args.i / 64) m (λ n. bit_or n m) seat.me (omega (arith, c.requires.inside, c.args.self.now.long)) (λ x k one. one),
    )

pub returns-clause-here : goal.returns-clause-here
returns-clause-here c =
    c.fetch_or-found.ensures.2.1 c.args.i refl (or-sets c.fetch_or-found.result c.block_of-bit.result (c.args.i % 64) c.block_of-bit.ensures)
