use Rattle.std.proofs.Common.{◌≡◌, [], ◌∷◌, Some, ap, subst, sym, ◌∙◌, arith}
use mathlib.Core.Option.{none}
use Rattle.atomic_table.specs.Table.{Allows, Me, rest, step}
use Rattle.first_touch.specs.Pages.{Slot, Holds, at_page, puts_back}
use Rattle.first_touch.specs.declared.view.View.{View}
use Rattle.first_touch.proofs.Steps.{put_back_allowed}
use Rattle.first_touch.proofs.pages.Pages.put_back.Goals as goal

pub store-requires : goal.store-requires
store-requires c =
    let table = c.args.self.now.table.shared in
    let taken = c.args.taken in
    let seat = c.exchange-none.new.seat in
    let k = c.args.k in
    let me : seat.me ≡ (at_page table.key k 1 0, (k, Some taken.page) ∷ []) =
    c.exchange-none.ensures.3 ∙ ap (λ (m : Me Slot View).
    (m.0, (k, Some taken.page) ∷ rest m.1)) c.requires.has.has in (
      c.exchange-none.ensures.0 ∙ c.requires.has.same,
      c.requires.inside,
      subst (λ (m : Me Slot View). Allows (Holds table.key) table.table_id.slots seat.id m k (λ _. 0)
          (λ _. puts_back (step table.table_id.slots k 0 0 none) m 0)) (sym me)
          (put_back_allowed table.key table.table_id.slots seat.id k taken.page
          (omega (arith, c.requires.inside, c.args.self.now.same)) c.requires.len),
    )
