use Rattle.std.proofs.Common.{◌≡◌, ◌<◌, List, length, None, Some, sym, ap, ◌∙◌, arith}
use Rattle.std.proofs.lemmas.List.{get_or_default}
use Rattle.std.specs.Mem.Slots.{slots_items}
use Rattle.cell_steps.specs.View.{Slot}
use Rattle.cell_steps.specs.Closing.{page_at}
use Rattle.cell_steps.proofs.TakenOut.{slot_of}
use Rattle.cell_steps.proofs.closed_pages.ClosedPages.page.Goals as goal

pub invariant_of-result : goal.invariant_of-result
invariant_of-result c =
    let p = c.args.p in
    let page = c.in-Some.log in
    let slots = slots_items c.self.inside.closed.slots in
    let inside : p < length slots = omega (arith, c.if-p-len.false, c.len.ensures.count, ap (λ (l : List Slot). length l) c.self.view_is) in
    let there : page_at slots p ≡ Some page = get_or_default slots p None c.get.result.now inside ∙ sym c.get.ensures ∙ c.in-Some.is in
    (sym (ap (λ (l : List Slot). page_at l p) c.self.view_is) ∙ there, c.self.invariant.2.long p page (slot_of slots p page there))
