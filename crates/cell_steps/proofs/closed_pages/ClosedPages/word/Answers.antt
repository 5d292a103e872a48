use Rattle.std.proofs.Common.{◌+◌, ◌*◌, List, get_or, sym, ap, ◌∙◌}
use Rattle.std.specs.Mem.Slots.{slots_items}
use Rattle.cell_steps.specs.View.{Slot}
use Rattle.cell_steps.specs.Closing.{page_at}
use Rattle.cell_steps.proofs.Sums.{read_at}
use Rattle.cell_steps.proofs.TakenOut.{slot_of}
use Rattle.cell_steps.proofs.closed_pages.ClosedPages.word.Goals as goal

pub returns : goal.returns
returns c = λ page there.
    let inside = c.self.inside in
    let p = c.args.p in
    let words = slots_items inside.closed.words in
    let at = slot_of (slots_items inside.closed.slots) p page (ap (λ (l : List Slot). page_at l p) c.self.view_is ∙ there) in
    sym (read_at words (inside.first + 64 * p + c.from.result) c.word.result 0 c.word.ensures)
    ∙ ap (λ k. get_or words (inside.first + 64 * p + k) 0) c.from.ensures
    ∙ c.self.invariant.2.made p c.args.offset page at c.requires.inside
