use Rattle.std.proofs.Common.{◌≡◌, ◌+◌, ◌∙◌, sym, ap, arith, take, drop, get_or, ℕ, true}
use Rattle.heap_layout.specs.declared.kind.Kind.TheVariants.{Header}
use Rattle.comp_journal.specs.declared.entry.Entry.{Entry}
use Rattle.comp_audit.specs.Checks.{fits, entry_faults}
use Rattle.comp_audit.specs.Noted.{setup_at}
use Rattle.comp_audit.proofs.EntryByEntry.{entry_next}
use Rattle.comp_audit.proofs.checks.journals.check_compacted.Goals as goal

pub loop-k-preserved : goal.loop-k-preserved
loop-k-preserved c =
    let j = c.args.journal.now in
    let k = c.loop-k.k in
    let u = setup_at c.args.setting in
    let none : Entry = record { stamp = 0; writer = 0; kind = Header; offset = 0; value = 0 } in
    let e = get_or j k none in
    let inside = c.loop-k-test.true in
    let fitting : fits u c.args.p (take k j) e.kind e.writer e.offset e.value ≡ true =
    sym (c.may_change.ensures u c.args.p (take k j) c.requires.compacted c.page_kinds-kinds.ensures) ∙ c.if-not-may_change.false in
    ap (λ (low : ℕ). entry_faults u c.args.p (k + 1) (low + 1) (take (k + 1) j) (drop (k + 1) j)) c.from-low.ensures
    ∙ entry_next u c.args.p k c.loop-k.low j none inside (omega (arith, c.from.ensures, c.if-from-low.false)) fitting
    ∙ c.loop-k.invariant
