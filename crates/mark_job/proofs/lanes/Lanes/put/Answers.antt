use Rattle.std.proofs.Common.{◌≡◌, ℕ, List, [], ◌∷◌, ap, subst, sym, ◌∙◌, arith}
use mathlib.Core.Option.{none}
use Rattle.atomic_table.specs.Table.{Allows, Me, rest, step}
use Rattle.mark_job.specs.Asked.{Asked, AreMetIn}
use Rattle.mark_job.specs.Lanes.{Holds, puts}
use Rattle.mark_job.specs.declared.view.View.{View}
use Rattle.mark_job.proofs.Steps.{put-allowed}
use Rattle.mark_job.proofs.lanes.Lanes.put.Goals as goal

pub store-requires : goal.store-requires
store-requires c =
    let table = c.args.self.now.table.shared in
    let taken = c.args.taken in
    let seat = c.exchange-empty.new.seat in
    let k = taken.k in
    let me : seat.me ≡ (taken.seat.me.0, (k, taken.lane) ∷ []) = c.exchange-empty.ensures.3 ∙ ap (λ (l : List (ℕ × List ℕ)). (taken.seat.me.0, (k, taken.lane) ∷ rest l)) c.requires.out.out in (
      c.exchange-empty.ensures.0 ∙ c.requires.out.same,
      omega (arith, taken.inside, c.args.self.now.words),
      subst (λ (m : Me (List ℕ) View). Allows (Holds table.key) table.table_id.slots seat.id m k (λ _. 0) (λ _. puts (step table.table_id.slots k 0 0 none) m 0)) (sym me)
          (put-allowed (AreMetIn table.key) table.table_id.slots seat.id k taken.seat.me.0 taken.lane (omega (arith, taken.inside, c.args.self.now.slots)) (subst (λ (asked : Asked). AreMetIn asked taken.lane) (sym c.requires.key) c.requires.met)),
    )
