use Rattle.std.proofs.Common.{◌≡◌, length, sym, ap, subst, ◌∙◌, arith}
use Rattle.mark_tables.specs.MarkBitmap.{set_bits}
use Rattle.rest_marks.specs.Looks.{Looking, AreLooked}
use Rattle.rest_marks.specs.Surveys.{marks_of}
use Rattle.stopped_heap.proofs.LooksFound.{looks-found}
use Rattle.stopped_heap.proofs.looks.Looks.finish.Goals as goal

pub returns-in-Ok-clause-looked : goal.returns-in-Ok-clause-looked
returns-in-Ok-clause-looked c = λ words counted are.
    let inside = c.self.inside in
    let seen = subst (λ (s : Looking). (length words ≡ s.count) × AreLooked s words) (sym c.self.view_is) (counted, are) in
    looks-found c.in-Ok.places inside.edition inside.count words inside.queue.items inside.next inside.heads.items inside.bits.items c.args.roots.now
    c.in-Ok.ensures.edition c.in-Ok.ensures.count (c.in-Ok.ensures.marks ∙ ap marks_of c.deref.ensures.value) (c.in-Ok.ensures.indices ∙ ap set_bits c.deref-2.ensures.value)
    seen.0 c.self.invariant.0 c.in-Ok.ensures.few_roots (omega (arith, c.self.invariant.1, c.self.invariant.2)) (omega (arith, c.self.invariant.2))
    c.self.invariant.3 c.self.invariant.5 (omega (arith, c.if-self-len.false, c.len.ensures)) c.in-Ok.ensures.roots seen.1
