use Rattle.std.proofs.Common.{Some, inl, inr, refl, ap, subst, ◌∙◌}
use Rattle.heap_layout.specs.Faults.{IsAccepted}
use Rattle.heap_layout.specs.Heap.{Heap}
use Rattle.heap_layout.specs.declared.fault.LayoutFault.TheVariants as layout
use Rattle.handle_base.specs.Making.{given}
use Rattle.handle_base.specs.declared.kept.Kept.TheVariants as kept
use Rattle.handle_base.proofs.Whys.{few_of}
use Rattle.handle_base.proofs.making.accept.Goals as goal

pub returns-then-keep : goal.returns-then-keep
returns-then-keep c =
    let same = c.in-Ok.ensures.made in
    inl (c.if-keep.ensures ∙ ap (λ (heap : Heap). Some (kept.Heap heap)) same, c.done.ensures, subst (λ (heap : Heap). IsAccepted heap) same c.in-Ok.ensures.accepted)

pub returns-else-keep : goal.returns-else-keep
returns-else-keep c =
    let heap = given c.args.edition c.args.words.now c.args.marks.now c.args.roots.now in
    let accepted = subst (λ (heap : Heap). IsAccepted heap) c.in-Ok.ensures.made c.in-Ok.ensures.accepted in
    inr (c.if-keep.ensures ∙ c.requires, (layout.OutOfMemory, c.unaccepted.ensures, inl (refl, few_of heap accepted)))
