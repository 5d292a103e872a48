use Rattle.std.proofs.Common.{◌∙◌, Option, ap, arith, is_some, sym}
use Rattle.comp_dump.specs.Dumped.{BuiltPage}
use Rattle.comp_audit.proofs.Missing.{built_next, first_page_missing, no_page_missing}
use Rattle.comp_audit.proofs.auditing.missing_page.Goals as goal

pub returns-then-is_none : goal.returns-then-is_none
returns-then-is_none c =
    first_page_missing c.args.records.now c.args.count c.loop-p.p c.loop-p-test.true c.loop-p.invariant
    (ap (λ (kept : Option BuiltPage). is_some kept) (sym c.page.ensures) ∙ c.if-is_none.ensures)

pub loop-p-preserved : goal.loop-p-preserved
loop-p-preserved c = built_next c.args.records.now c.loop-p.p c.loop-p.invariant (ap (λ (kept : Option BuiltPage). is_some kept) (sym c.page.ensures) ∙ c.if-is_none.ensures)

pub returns : goal.returns
returns c = no_page_missing c.args.records.now c.args.count (λ q lt. c.loop-p.invariant q (omega (arith, lt)))
