use Rattle.std.proofs.Common.{◌≡◌, ◌==◌, drop, slice_index}
use Rattle.std.specs.List.{flat_map, enumerate_from}
use Rattle.comp_history.specs.Setup.{address}
use Rattle.comp_audit.specs.Checks.{unless, same_words}
use Rattle.comp_dump.specs.declared.fault.AuditFault.TheVariants.{WrongWord}
use Rattle.comp_audit.proofs.checks.page_words.check_same.Given as goal

-- the words that are left have the faults of all
abbrev pub invariant-loop-offset : goal.invariant-loop-offset
invariant-loop-offset l =
    flat_map (λ word. unless (word.1 == slice_index l.right word.0) (WrongWord (address l.p word.0))) (enumerate_from l.offset (drop l.offset l.words)) ≡ same_words l.right l.p l.words
