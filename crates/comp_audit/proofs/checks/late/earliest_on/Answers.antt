use Rattle.std.proofs.Common.{◌≡◌, ◌∙◌, ◌+◌, ◌++◌, true, false, get_or, Some, sym, subst, refl, arith}
use Rattle.std.proofs.lemmas.List.{get_or_default}
use Rattle.heap_layout.specs.declared.kind.Kind.TheVariants.{Header}
use Rattle.comp_journal.specs.declared.entry.Entry.{Entry}
use Rattle.comp_audit.specs.Checks.{is_led}
use Rattle.comp_audit.specs.Noted.{is_noted_before, IsEarliest}
use Rattle.comp_audit.proofs.Earliest.{front_late, late_begun, late_done, passes_late, fails_late}
use Rattle.comp_audit.proofs.checks.late.earliest_on.Goals as goal
use Rattle.comp_audit.proofs.checks.late.earliest_on.Goals.{then-not-is_led, else-not-is_led}

pub loop-k-init : goal.loop-k-init
loop-k-init c = λ faults h. late_begun (is_led c.args.plan.now (is_noted_before c.args.starts.now)) faults c.args.p c.args.journal.now c.args.found h

pub loop-k-preserved : goal.loop-k-preserved
loop-k-preserved c =
    let test = is_led c.args.plan.now (is_noted_before c.args.starts.now) in
    let p = c.args.p in
    let j = c.args.journal.now in
    let k = c.loop-k.k in
    let none : Entry = record { stamp = 0; writer = 0; kind = Header; offset = 0; value = 0 } in
    let e = get_or j k none in
    let inside = c.loop-k-test.true in
    let is : e ≡ get_or j k e = get_or_default j k none e inside in
    λ faults h.
    let before = c.loop-k.invariant faults h in
    elim c.if-not-is_led.branch [
      | then-not-is_led w ↦
          let fails : test e ≡ false = sym c.is_led.ensures ∙ w.if-not-is_led.true in
          subst (IsEarliest (λ s. faults s ++ front_late test p j (k + 1) s)) (sym w.found-is)
          (fails_late test faults p j k e inside is (Some w.earlier.result) (record { stamp = e.stamp; page = p; number = k }) fails refl
          (w.earlier.ensures (λ s. faults s ++ front_late test p j k s) before))
      | else-not-is_led w ↦
          let passes : test e ≡ true = sym c.is_led.ensures ∙ w.if-not-is_led.false in
          subst (IsEarliest (λ s. faults s ++ front_late test p j (k + 1) s)) (sym w.found-is) (passes_late test faults p j k e inside is c.loop-k.found passes before)
    ]

pub returns : goal.returns
returns c = λ faults h.
    late_done (is_led c.args.plan.now (is_noted_before c.args.starts.now)) faults c.args.p c.args.journal.now c.loop-k.k c.loop-k.found (omega arith) (c.loop-k.invariant faults h)
