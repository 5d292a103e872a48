use Rattle.std.proofs.Common.{◌≡◌, ℕ, List, [], ◌∷◌, Some, ap, subst, sym, ◌∙◌, arith}
use mathlib.Core.Option.{none}
use Rattle.atomic_table.specs.Table.{Allows, Me, rest, step}
use Rattle.first_touch.specs.Pages.{Slot, Holds, at_page, publishes}
use Rattle.first_touch.specs.declared.view.View.{View}
use Rattle.first_touch.proofs.Steps.{publish_allowed}
use Rattle.first_touch.proofs.pages.Pages.publish.Goals as goal

pub store-requires : goal.store-requires
store-requires c =
    let table = c.args.self.now.table.shared in
    let taken = c.args.taken in
    let seat = c.exchange-none.new.seat in
    let k = c.args.taken.k in
    let me : seat.me ≡ (at_page table.key k 1 0, (k, Some taken.page) ∷ []) =
    c.exchange-none.ensures.3 ∙ ap (λ (m : Me Slot View).
    (m.0, (k, Some taken.page) ∷ rest m.1)) c.requires.has.has in (
      c.exchange-none.ensures.0 ∙ c.requires.has.same,
      c.requires.inside,
      subst (λ (m : Me Slot View). Allows (Holds table.key) table.table_id.slots seat.id m k (λ _. 2)
          (λ _. publishes (step table.table_id.slots k 2 0 none) m 2)) (sym me)
          (publish_allowed table.key table.table_id.slots seat.id k taken.page
          (omega (arith, c.requires.inside, c.args.self.now.same)) c.requires.slid),
    )

pub exchange-requires : goal.exchange-requires
exchange-requires c =
    let k = c.args.taken.k in
    let there = c.store.ensures.2.1 in
    let is : c.store.new.seat.me.1 ≡ (k, Some there.0) ∷ [] =
    ap (λ (m : Me Slot View). m.1) c.store.ensures.2.0 ∙ there.1 in (
      c.store.ensures.0 ∙ c.exchange-none.ensures.0 ∙ c.requires.has.same,
      (Some there.0, is ∙ sym (ap (λ (l : List (ℕ × Slot)). (k, Some there.0) ∷ rest l) is)),
    )
