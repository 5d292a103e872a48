use Rattle.std.proofs.Common.{◌≡◌, ◌/◌, ◌%◌, refl, sym, ap, ◌∙◌, arith}
use Rattle.std.specs.Int.{bit_at}
use Rattle.std.proofs.lemmas.Bool.{eqb-true}
use Rattle.mark_job.specs.Met.{KnownMet}
use Rattle.mark_job.proofs.Growing.{or-more, or-none, see-allowed}
use Rattle.mark_job.proofs.heads.Heads.sees.Goals as goal

pub load-found-requires : goal.load-found-requires
load-found-requires c =
    let table = c.args.self.now.table.shared in
    let seat = c.met.inside.seat in (
      ap (λ (m : KnownMet). m.table) c.met.view_is ∙ c.requires.table,
      omega (arith, c.requires.inside),
      see-allowed table.key table.table_id.slots seat.id (c.args.i / 64) 0 (λ n. n) seat.me (omega (arith, c.requires.inside, c.args.self.now.long)) or-none,
    )

pub returns-clause-here : goal.returns-clause-here
returns-clause-here c = λ is.
    let found = c.load-found.result in
    let one : bit_at found (c.args.i % 64) ≡ 1 = eqb-true (bit_at found (c.args.i % 64)) 1 (sym c.has.ensures ∙ is) in
    c.load-found.ensures.2.1 c.args.i refl (or-more found 0 (c.args.i % 64) one)
