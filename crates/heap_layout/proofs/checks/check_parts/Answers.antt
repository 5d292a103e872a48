use Rattle.std.proofs.Common.{◌≡◌, ℕ, Bool, List, [], subst, arith}
use Rattle.std.proofs.lemmas.Grind.{common_steps}
use Rattle.std.specs.List.{flat_map}
use Rattle.heap_layout.specs.Heap.{starts}
use Rattle.heap_layout.specs.Values.{or_immediate}
use Rattle.heap_layout.specs.declared.edition.Edition.{Edition}
use Rattle.heap_layout.specs.declared.fault.LayoutFault.{LayoutFault}
use Rattle.heap_layout.specs.Faults.{object_faults, mark_faults, root_faults, root_faults_by, target_faults, weak_faults, field_faults_by, IsFirst}
use Rattle.heap_layout.specs.declared.kind.Kind.TheVariants.{Reference}
use Rattle.heap_layout.proofs.Marked.{first-object, marks-placed}
use Rattle.heap_layout.proofs.Rows.{append-none}
use Rattle.std.proofs.lemmas.Result.{err_from_is_err_and}
use Rattle.heap_layout.proofs.checks.check_parts.Goals as goal

-- the faults of the row
abbrev row : Edition → List ℕ → List LayoutFault
row edition words = flat_map (object_faults edition words) (starts edition words)

pub returns-in_err-check_objects : goal.returns-in_err-check_objects
returns-in_err-check_objects c =
    let words = c.args.words.now in
    let marks = c.args.marks.now in
    let e = c.args.edition in
    let p = err_from_is_err_and c.from_residual.result c.from_residual.ensures.1 in
    rw (p.1, p.2) (first-object (row e words) (mark_faults (starts e words) 0 marks) (root_faults e marks c.args.roots.now) (target_faults e words marks marks) (weak_faults e words marks) _
    c.in_err-check_objects.ensures.reported)

pub check_fields-requires-clause-placed : goal.check_fields-requires-clause-placed
check_fields-requires-clause-placed c = (let parts = append-none (row c.args.edition c.args.words.now) (mark_faults (starts c.args.edition c.args.words.now) 0 c.args.marks.now) c.in_ok-check_objects.ensures.reported in marks-placed c.args.edition c.args.words.now c.args.marks.now parts.0 parts.1)

pub returns-in_err-check_roots : goal.returns-in_err-check_roots
returns-in_err-check_roots c =
    let roots : IsFirst (root_faults c.args.edition c.args.marks.now c.args.roots.now) c.in_err-check_roots.field-0.0 =
    subst (λ (test : ℕ → Bool). IsFirst (root_faults_by (or_immediate c.args.edition test) c.args.roots.now) c.in_err-check_roots.field-0.0) c.in_ok-check_objects.ensures.targets c.in_err-check_roots.ensures in
    let (row_none, marks_none) = append-none (row c.args.edition c.args.words.now) (mark_faults (starts c.args.edition c.args.words.now) 0 c.args.marks.now) c.in_ok-check_objects.ensures.reported in
    grind (arith, common_steps)

pub returns-in_err-check_fields : goal.returns-in_err-check_fields
returns-in_err-check_fields c =
    let words = c.args.words.now in
    let marks = c.args.marks.now in
    let e = c.args.edition in
    let roots : root_faults e marks c.args.roots.now ≡ [] =
    subst (λ (test : ℕ → Bool). root_faults_by (or_immediate c.args.edition test) c.args.roots.now ≡ []) c.in_ok-check_objects.ensures.targets c.in_ok-check_roots.ensures in
    let targets : IsFirst (target_faults e words marks marks) c.in_err-check_fields.field-0.0 =
    subst (λ (test : ℕ → Bool). IsFirst (field_faults_by Reference e (or_immediate e test) words marks) c.in_err-check_fields.field-0.0) c.in_ok-check_objects.ensures.targets c.in_err-check_fields.ensures in
    let (row_none, marks_none) = append-none (row c.args.edition c.args.words.now) (mark_faults (starts c.args.edition c.args.words.now) 0 c.args.marks.now) c.in_ok-check_objects.ensures.reported in
    grind (arith, common_steps)

pub check_weak-requires-clause-placed : goal.check_weak-requires-clause-placed
check_weak-requires-clause-placed c = (let parts = append-none (row c.args.edition c.args.words.now) (mark_faults (starts c.args.edition c.args.words.now) 0 c.args.marks.now) c.in_ok-check_objects.ensures.reported in marks-placed c.args.edition c.args.words.now c.args.marks.now parts.0 parts.1)

pub returns : goal.returns
returns c =
    let words = c.args.words.now in
    let marks = c.args.marks.now in
    let e = c.args.edition in
    let roots : root_faults e marks c.args.roots.now ≡ [] =
    subst (λ (test : ℕ → Bool). root_faults_by (or_immediate c.args.edition test) c.args.roots.now ≡ []) c.in_ok-check_objects.ensures.targets c.in_ok-check_roots.ensures in
    let targets : target_faults e words marks marks ≡ [] =
    subst (λ (test : ℕ → Bool). field_faults_by Reference e (or_immediate e test) words marks ≡ []) c.in_ok-check_objects.ensures.targets c.in_ok-check_fields.ensures in
    let (row_none, marks_none) = append-none (row c.args.edition c.args.words.now) (mark_faults (starts c.args.edition c.args.words.now) 0 c.args.marks.now) c.in_ok-check_objects.ensures.reported in
    grind (arith, common_steps)

pub check_weak-requires-clause-row : goal.check_weak-requires-clause-row
check_weak-requires-clause-row c =
    (append-none (row c.args.edition c.args.words.now) (mark_faults (starts c.args.edition c.args.words.now) 0 c.args.marks.now) c.in_ok-check_objects.ensures.reported).0
