use Rattle.std.proofs.Common.{subst, sym, arith}
use mathlib.Core.Option.{none}
use Rattle.atomic_table.specs.Table.{Allows, Me, step}
use Rattle.first_touch.specs.Turning.{Holds, puts_back}
use Rattle.first_touch.specs.declared.turn_view.TurnView.{TurnView}
use Rattle.first_touch.proofs.TurnSteps.{put_back_allowed}
use Rattle.first_touch.proofs.turn_words.TurnWords.put_back.Goals as goal

pub store-requires : goal.store-requires
store-requires c =
    let table = c.args.self.now.table.shared in
    let seat = c.args.seat in
    let k = c.args.k in (
      c.requires.has.same,
      c.requires.inside,
      subst (λ (m : Me (Unit {0}) TurnView). Allows (Holds table.key) table.table_id.slots seat.id m k (λ _. 0)
          (λ _. puts_back (step table.table_id.slots k 0 0 none) m 0)) (sym c.requires.has.has)
          (put_back_allowed table.key table.table_id.slots seat.id k
          (omega (arith, c.requires.inside, c.args.self.now.key))),
    )
