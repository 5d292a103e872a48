use Rattle.std.proofs.Common.{◌==◌, subst, sym, arith}
use mathlib.Core.Option.{none}
use prog.Atomic.{either}
use Rattle.atomic_table.specs.Table.{Allows, Me, step}
use Rattle.first_touch.specs.Turning.{Holds, claims}
use Rattle.first_touch.specs.declared.turn_view.TurnView.{TurnView}
use Rattle.first_touch.proofs.TurnSteps.{claim_allowed}
use Rattle.first_touch.proofs.turn_words.TurnWords.claim.Goals as goal

pub compare_exchange-found-requires : goal.compare_exchange-found-requires
compare_exchange-found-requires c =
    let table = c.args.self.now.table.shared in (
      c.requires.same,
      c.requires.inside,
      subst (λ (m : Me (Unit {0}) TurnView). Allows (Holds table.key) table.table_id.slots c.args.seat.id m c.args.k
          (λ n. either (n == 0) 1 n) (claims (step table.table_id.slots c.args.k 0 1 none) m))
          (sym c.requires.free.free)
          (claim_allowed table.key table.table_id.slots c.args.seat.id c.args.k c.requires.free.word
          (omega (arith, c.requires.inside, c.args.self.now.key))),
    )
