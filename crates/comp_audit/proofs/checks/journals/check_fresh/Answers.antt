use Rattle.std.proofs.Common.{◌≡◌, ◌+◌, ◌++◌, ◌∙◌, List, sym, ap, arith, take, drop, get_or, ℕ, length, true, false, ◌⊎◌, inl, inr, ◌<◌, subst, length-append}
use Rattle.std.proofs.lemmas.List.{drop_all}
use Rattle.heap_layout.specs.Heap.{Heap}
use Rattle.heap_layout.specs.declared.edition.Edition.{Edition}
use Rattle.heap_layout.specs.declared.kind.Kind.{Kind}
use Rattle.heap_layout.specs.declared.kind.Kind.TheVariants.{Header}
use Rattle.comp_journal.specs.declared.entry.Entry.{Entry}
use Rattle.comp_history.specs.Setup.{fresh_page}
use Rattle.comp_history.specs.Lawful.{kinds_by, kinds_in}
use Rattle.comp_audit.specs.Checks.{fits, entry_faults, setup_for}
use Rattle.comp_audit.specs.Noted.{setup_at}
use Rattle.comp_audit.specs.Reported.{IsFirst}
use Rattle.comp_dump.specs.declared.fault.AuditFault.{AuditFault}
use Rattle.comp_dump.specs.declared.fault.AuditFault.TheVariants.{BadEntry}
use Rattle.comp_history.proofs.JournalKinds.{kinds_more}
use Rattle.comp_audit.proofs.EntryByEntry.{entry_bad, entry_next}
use Rattle.comp_audit.proofs.checks.journals.check_fresh.Goals.{then-from-low-via-then-from-low, then-from-low-via-else-from-low+then-not-may_follow}
use Rattle.comp_audit.proofs.checks.journals.check_fresh.Goals as goal

-- what fits, by the number of mutators
by_mutators : (heap : Heap) (fresh number : ℕ) (before : List Entry) (e : Entry) (n m : ℕ) → n ≡ m
    → fits (setup_for heap fresh n) (fresh_page (setup_for heap fresh n) number) before e.kind e.writer e.offset e.value
    ≡ fits (setup_for heap fresh m) (fresh_page (setup_for heap fresh m) number) before e.kind e.writer e.offset e.value
by_mutators heap fresh number before e n m same =
    ap (λ (k : ℕ). fits (setup_for heap fresh k) (fresh_page (setup_for heap fresh k) number) before e.kind e.writer e.offset e.value) same

pub loop-k-preserved : goal.loop-k-preserved
loop-k-preserved c =
    let i = c.loop-k.invariant in
    let j = c.args.journal.now in
    let k = c.loop-k.k in
    let u = setup_at c.args.setting in
    let ed : c.edition-edition.result ≡ u.heap.edition = c.edition-edition.ensures ∙ ap (λ (h : Heap). h.edition) c.heap.ensures in
    let none : Entry = record { stamp = 0; writer = 0; kind = Header; offset = 0; value = 0 } in
    let e = get_or j k none in
    let inside = c.loop-k-test.true in
    let may : c.may_follow.result ≡ true = c.if-not-may_follow.false in
    let before : kinds_in u.heap.edition (take k j) ≡ c.deref.result.now = i.kinds ∙ sym c.deref.ensures.value in
    let right : c.may_follow.result ≡ fits u (fresh_page u c.args.number) (take k j) e.kind e.writer e.offset e.value =
    c.may_follow.ensures.fits c.args.setting.plan.now c.args.setting.dump.now.fresh (take k j) (sym ed) c.requires.fresh before
    ∙ by_mutators c.args.setting.plan.now c.args.setting.dump.now.fresh c.args.number (take k j) e _ _ c.mutators-mutators.ensures in
    let fitting : fits u c.args.p (take k j) e.kind e.writer e.offset e.value ≡ true =
    ap (λ (p : ℕ). fits u p (take k j) e.kind e.writer e.offset e.value) c.requires.number ∙ sym right ∙ may in
    let next = entry_next u c.args.p k c.loop-k.low j none inside (omega (arith, c.from.ensures, c.if-from-low.false)) fitting in
    let room = c.may_follow.ensures.room may in
    record {
      left = ap (λ (low : ℕ). entry_faults u c.args.p (k + 1) (low + 1) (take (k + 1) j) (drop (k + 1) j)) c.from-low.ensures ∙ next ∙ i.left;
      kinds = kinds_more u.heap.edition j k none inside ∙ ap (λ (front : List Kind). front ++ kinds_by u.heap.edition e.kind e.value) i.kinds ∙ ap (λ (x : Edition). c.loop-k.kinds.items ++ kinds_by x e.kind e.value) (sym ed) ∙ sym c.add_kinds.ensures.items;
      few = omega (arith, room, ap length c.add_kinds.ensures.items, length-append c.loop-k.kinds.items (kinds_by c.edition-edition.result e.kind e.value), ap length c.deref.ensures.value);
      room = omega (arith, c.add_kinds.ensures.capacity, i.room);
    }

pub returns-then-from-low : goal.returns-then-from-low
returns-then-from-low c =
    let i = c.loop-k.invariant in
    let j = c.args.journal.now in
    let k = c.loop-k.k in
    let u = setup_at c.args.setting in
    let ed : c.edition-edition.result ≡ u.heap.edition = c.edition-edition.ensures ∙ ap (λ (h : Heap). h.edition) c.heap.ensures in
    let none : Entry = record { stamp = 0; writer = 0; kind = Header; offset = 0; value = 0 } in
    let e = get_or j k none in
    let bad : (e.stamp < c.loop-k.low) ⊎ (fits u c.args.p (take k j) e.kind e.writer e.offset e.value ≡ false) = elim c.then-from-low.branch [
      | then-from-low-via-then-from-low w ↦ inl (omega (arith, c.from.ensures, w.if-from-low.true))
      | then-from-low-via-else-from-low+then-not-may_follow w ↦
          inr (ap (λ (p : ℕ). fits u p (take k j) e.kind e.writer e.offset e.value) c.requires.number
          ∙ sym (w.may_follow.ensures.fits c.args.setting.plan.now c.args.setting.dump.now.fresh (take k j) (sym ed) c.requires.fresh (i.kinds ∙ sym w.deref.ensures.value)
          ∙ by_mutators c.args.setting.plan.now c.args.setting.dump.now.fresh c.args.number (take k j) e _ _ c.mutators-mutators.ensures)
          ∙ w.if-not-may_follow.true)
    ] in
    subst (λ (faults : List AuditFault). IsFirst faults (BadEntry c.args.p k)) i.left (entry_bad u c.args.p k c.loop-k.low j none c.loop-k-test.true bad)

pub returns : goal.returns
returns c =
    let j = c.args.journal.now in
    let k = c.loop-k.k in
    sym c.loop-k.invariant.left
    ∙ ap (λ (rest : List Entry). entry_faults (setup_at c.args.setting) c.args.p k c.loop-k.low (take k j) rest) (drop_all k j c.loop-k-test.false)
