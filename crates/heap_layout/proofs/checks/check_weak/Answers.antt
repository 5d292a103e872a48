use Rattle.std.proofs.Common.{ℕ, Bool, subst}
use Rattle.heap_layout.specs.Values.{or_immediate}
use Rattle.heap_layout.specs.Faults.{field_faults_by, Reports}
use Rattle.heap_layout.specs.declared.kind.Kind.TheVariants.{Weak}
use Rattle.heap_layout.proofs.Marked.{weak-none}
use Rattle.heap_layout.proofs.checks.check_weak.Goals as goal

pub returns-in-One : goal.returns-in-One
returns-in-One c = rw c.in-One.is (weak-none c.args.words.now c.args.marks.now)

pub returns-in-Two : goal.returns-in-Two
returns-in-Two c =
    subst (λ (test : ℕ → Bool). Reports (field_faults_by Weak c.args.edition (or_immediate c.args.edition test) c.args.words.now c.args.marks.now) c.check_fields.result) c.put_row.ensures.row c.check_fields.ensures
