use Rattle.std.proofs.Common.{◌≡◌, ◌≤◌, ◌∙◌, ◌||◌, ℕ, Option, List, [], length, not, refl, sym, ap, subst, arith, None}
use Rattle.std.specs.Prelude.{slice_index_or}
use Rattle.std.proofs.lemmas.Bool.{eqb-true}
use Rattle.heap_layout.specs.Values.{leads_nowhere}
use Rattle.heap_layout.specs.declared.kind.Kind.{Kind}
use Rattle.comp_journal.specs.declared.entry.Entry.{Entry}
use Rattle.comp_history.specs.Lawful.{filled, kind_at}
use Rattle.comp_history.specs.Setup.{address}
use Rattle.comp_history.proofs.JournalKinds.{room_on}
use Rattle.comp_dump.specs.declared.fault.AuditFault.{AuditFault}
use Rattle.comp_dump.specs.declared.fault.AuditFault.TheVariants.{LooseReference}
use Rattle.comp_audit.specs.Checks.{some_refers, loose_faults, reference_faults, unless}
use Rattle.comp_audit.specs.Reported.{Reports}
use Rattle.comp_audit.specs.Noted.{leads, setup_at}
use Rattle.comp_audit.proofs.Reporting.{same_items}
use Rattle.comp_audit.proofs.Unwritten.{none_loose}
use Rattle.comp_audit.proofs.checks.references.check_page.Goals as goal

pub kinds_on-requires : goal.kinds_on-requires
kinds_on-requires c =
    let u = setup_at c.args.setting in
    subst (λ (journal : List Entry). filled u.heap.edition journal ≤ 64) (sym c.journal-journal.ensures) (room_on u c.args.p [] c.args.page.now.journal (omega arith) c.requires.lawful)

pub returns : goal.returns
returns c =
    let u = setup_at c.args.setting in
    let page = c.args.page.now in
    let leading = leads c.args.setting.plan.now c.args.starts.now in
    let test = λ (o : Option Kind) (word : ℕ × ℕ). unless (not (some_refers o) || leads_nowhere u.heap.edition word.1 || leading word.1) (LooseReference (address c.args.p word.0)) in
    let words : c.words.result ≡ page.words = c.words.ensures in
    let same : loose_faults u.heap.edition (λ offset. some_refers (slice_index_or c.in_ok-kinds.kinds offset None)) leading c.args.p page.words ≡ reference_faults leading u c.args.p page =
    same_items (λ (word : ℕ × ℕ). test (slice_index_or c.in_ok-kinds.kinds word.0 None) word) (λ (word : ℕ × ℕ). test (kind_at u c.args.p page.journal word.0) word) 0 page.words
    (λ k x lt. ap (λ (o : Option Kind). test o (k, x)) (c.in_ok-kinds.ensures u refl refl k (omega (arith, lt, c.requires.stored.long)) ∙ ap (λ (j : List _). kind_at u c.args.p j k) c.journal-journal.ensures)) in
    subst (λ (l : List AuditFault). Reports l c.check_loose.result) same
    (subst (λ (ys : List ℕ). Reports (loose_faults u.heap.edition (λ offset. some_refers (slice_index_or c.in_ok-kinds.kinds offset None)) leading c.args.p ys) c.check_loose.result) words
    c.check_loose.ensures)

pub returns-then-is_empty : goal.returns-then-is_empty
returns-then-is_empty c =
    let same = ap length c.journal-journal.ensures in
    let empty = eqb-true (length c.journal-journal.result.now) 0 (sym c.if-is_empty.ensures) in
    none_loose (setup_at c.args.setting) c.args.starts.now c.args.p c.args.page.now c.requires.lawful c.requires.stored.long (omega (arith, same, empty)) c.requires.words
