use Rattle.std.proofs.Common.{◌≡◌, ◌==◌, ◌∷◌, Some, ap, subst, sym, ◌∙◌, arith}
use mathlib.Core.Option.{none}
use prog.Atomic.{either}
use Rattle.atomic_table.specs.Table.{Allows, Me, rest, step}
use Rattle.first_touch.specs.Pages.{Slot, Holds, claims}
use Rattle.first_touch.specs.declared.view.View.{View}
use Rattle.first_touch.proofs.Steps.{claim_allowed}
use Rattle.first_touch.proofs.pages.Pages.claim.Goals as goal

pub compare_exchange-found-requires : goal.compare_exchange-found-requires
compare_exchange-found-requires c =
    let table = c.args.self.now.table.shared in (
      c.requires.same,
      c.requires.inside,
      subst (λ (m : Me Slot View). Allows (Holds table.key) table.table_id.slots c.args.seat.id m c.args.k
          (λ n. either (n == 0) 1 n) (claims (step table.table_id.slots c.args.k 0 1 none) m))
          (sym c.requires.free.free)
          (claim_allowed table.key table.table_id.slots c.args.seat.id c.args.k c.requires.free.word
          (omega (arith, c.requires.inside, c.args.self.now.same))),
    )

pub exchange-requires : goal.exchange-requires
exchange-requires c =
    let free : c.compare_exchange-found.result ≡ 0 = omega arith in
    let got = c.compare_exchange-found.ensures.2.0 free in (
      c.compare_exchange-found.ensures.0 ∙ c.requires.same,
      (
        Some got.0,
        ap (λ (m : Me Slot View). m.1) got.1
            ∙ sym (ap (λ (m : Me Slot View). (c.args.k, Some got.0) ∷ rest m.1) got.1),
      ),
    )
