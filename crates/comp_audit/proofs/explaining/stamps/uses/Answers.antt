use Rattle.std.proofs.Common.{◌≡◌, ◌∙◌, ◌<◌, List, Option, ap, length, arith}
use Rattle.comp_dump.specs.Dumped.{BuiltPage}
use Rattle.comp_audit.specs.Checks.{journals_in}
use Rattle.comp_audit.proofs.Told.{few_entries, uses_more}
use Rattle.comp_audit.proofs.explaining.stamps.uses.Goals as goal

pub loop-p-preserved : goal.loop-p-preserved
loop-p-preserved c =
    let dump = c.args.dump.now in
    let p = c.loop-p.p in
    let i = c.loop-p.invariant in
    let same : c.journal_of.result.now ≡ journals_in dump.pages p = c.journal_of.ensures ∙ ap (λ (records : List (Option BuiltPage)). journals_in records p) c.pages-in-loop-p.ensures in
    let inside : p < length dump.pages = omega (arith, c.loop-p-test.true, c.len-p-end.ensures, ap length c.pages.ensures) in
    let few = few_entries dump.edition dump.mutators dump.pages p inside c.dump_is_stored.ensures.pages in
    record {
      uses = uses_more dump.pages c.args.stamp p c.journal_of.result.now c.loop-p.uses c.uses_on-uses.result same i.uses c.uses_on-uses.ensures.uses;
      few = omega (arith, i.few, few, ap length same, c.uses_on-uses.ensures.few);
    }
