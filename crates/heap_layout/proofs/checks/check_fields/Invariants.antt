use Rattle.std.proofs.Common.{◌≡◌, drop}
use Rattle.heap_layout.specs.Bits.{leads}
use Rattle.heap_layout.specs.Values.{or_immediate}
use Rattle.heap_layout.specs.Faults.{field_faults_by}
use Rattle.heap_layout.proofs.checks.check_fields.Given as goal

-- the remaining marked objects have the faults of all
abbrev pub invariant-loop-mark : goal.invariant-loop-mark
invariant-loop-mark l =
    field_faults_by l.kind l.edition (or_immediate l.edition (leads l.bits)) l.words (drop l.mark-index l.marks) ≡ field_faults_by l.kind l.edition (or_immediate l.edition (leads l.bits)) l.words l.marks
