use Rattle.std.proofs.Common.{rules, ◌≡◌, ◌*◌, length, refl, sym, ap, subst, ◌∙◌}
use Rattle.first_touch.specs.Asked.{page_len}
use Rattle.first_touch.specs.Seen.{asked_of, PageId, TurnDesk}
use Rattle.first_touch.specs.TurnAnswers.{IsTurnFault}
use Rattle.first_touch.proofs.Refusals.{page-fault}
use Rattle.first_touch.proofs.turns.Turns.build.Goals as goal

pub returns-in-Err-clause-refused : goal.returns-in-Err-clause-refused
returns-in-Err-clause-refused c =
    let k = c.args.turn.page in
    let asked = asked_of c.args.self.now c.args.words.now in
    let room = length c.args.part.now in
    let size = c.self.inside.size in
    let counted : room ≡ page_len asked k = search rules in
    let begins : c.turn.inside.k * size ≡ k * asked.size =
    ap (λ (t : PageId). t.page * size) c.turn.view_is ∙ ap (λ (t : TurnDesk). k * t.size) c.self.view_is in
    let of_page = page-fault asked k (c.turn.inside.k * size) room c.deref-2.result.now c.args.words.now c.in-Err.fault
    (c.deref-2.ensures ∙ ap (λ (t : TurnDesk). t.found) c.self.view_is) refl begins counted c.in-Err.ensures.fault in
    record { fault = subst (IsTurnFault asked k room) (sym c.refuse-in-Err.ensures.fault) (counted, of_page); back = c.refuse-in-Err.ensures.back }
