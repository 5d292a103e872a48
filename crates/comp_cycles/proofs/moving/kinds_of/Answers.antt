use Rattle.std.proofs.Common.{◌≤◌, ◌∙◌, List, [], ap, sym, subst, arith}
use Rattle.std.proofs.lemmas.Result.{IfOk-weaker}
use Rattle.heap_layout.specs.Heap.{Heap, live}
use Rattle.page_plan.specs.Sliding.{pages}
use Rattle.comp_journal.specs.declared.entry.Entry.{Entry}
use Rattle.comp_history.specs.Lawful.{filled, kind_at}
use Rattle.comp_history.proofs.JournalKinds.{room_on}
use Rattle.comp_cycles.specs.Finishes.{journals_of}
use Rattle.comp_cycles.specs.Ends.{setup_in}
use Rattle.comp_cycles.proofs.moving.kinds_of.Goals as goal

pub kinds_on-requires : goal.kinds_on-requires
kinds_on-requires g c =
    let u = setup_in (g.B.Builder.heap c.args.builder.now) c.args.finished.now in
    let journal = journals_of c.args.finished.now c.args.p in
    let room = room_on u c.args.p [] journal (omega arith) (c.requires.of.finished.pages.lawful c.args.p) in
    subst (λ (heap : Heap). filled heap.edition c.journal_on.result.now ≤ 64) (sym c.plan.ensures)
    (subst (λ (entries : List Entry). filled u.heap.edition entries ≤ 64) (sym c.journal_on.ensures) room)

pub returns : goal.returns
returns g c =
    let u = setup_in (g.B.Builder.heap c.args.builder.now) c.args.finished.now in
    IfOk-weaker c.kinds_on.result _ _
    (λ kinds numbered offset inside.
    numbered u (sym c.plan.ensures) (ap (λ (heap : Heap). pages (live heap)) (sym c.plan.ensures)) offset inside
    ∙ ap (λ (entries : List Entry). kind_at u c.args.p entries offset) c.journal_on.ensures)
    c.kinds_on.ensures
