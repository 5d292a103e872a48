use Rattle.std.proofs.Common.{◌≡◌, length, ap, ◌∙◌}
use Rattle.std.proofs.lemmas.Grind.{common_steps}
use Rattle.std.proofs.Common.{arith}
use Rattle.rest_marks.specs.Places.{Found}
use Rattle.stopped_heap.proofs.FoundIn.{kept-count}
use Rattle.stopped_heap.proofs.growth.Growth.kept.Goals as goal

pub returns : goal.returns
returns c =
    let inside = c.self.inside in
    let tables = c.self.invariant.0 in
    let long : c.len.result ≡ length inside.queue.items = grind (arith, common_steps, c.len.ensures) in
    long ∙ kept-count inside.edition tables.0 inside.queue.items inside.heads.items inside.bits.items tables.2 ∙ ap (λ (f : Found). length f.marks) c.self.view_is
