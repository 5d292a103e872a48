use Rattle.std.proofs.Common.{◌++◌, ◌∙◌, ap, subst, List, arith}
use Rattle.std.proofs.lemmas.Map.Keys.{ge_from_not_lt}
use Rattle.comp_dump.specs.declared.fault.AuditFault.{AuditFault}
use Rattle.comp_audit.specs.Checks.{repeat_faults, missing_faults}
use Rattle.comp_audit.specs.Reported.{Reports}
use Rattle.comp_audit.proofs.Ranges.{same_repeats, same_missing, times_permuted, sorted_from}
use Rattle.comp_audit.proofs.checks.stamps.check_numbers.Goals as goal

pub check_sorted-requires : goal.check_sorted-requires
check_sorted-requires c = record {
  sorted = sorted_from c.sort_unstable.new.self (λ k inside. ge_from_not_lt _ _ (c.sort_unstable.ensures.sorted k 0 (omega arith) inside));
}

pub returns : goal.returns
returns c =
    let same = times_permuted _ _ c.sort_unstable.ensures.permutation in
    let faults = ap (λ (front : List AuditFault). front ++ missing_faults c.sort_unstable.new.self) (same_repeats _ _ same)
    ∙ ap (λ (rest : List AuditFault). repeat_faults c.args.stamps.now ++ rest) (same_missing _ _ c.sort_unstable.ensures.len same) in
    subst (λ (list : List AuditFault). Reports list c.check_sorted.result) faults c.check_sorted.ensures
