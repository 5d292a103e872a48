-- What a call that writes a field does, and what it answers.
use Rattle.std.specs.Prelude.{◌≡◌, ℕ, Result, IfErr, IfOk, OnErr, OnOk, true, false}
use Rattle.heap_layout.specs.Kinds.{refers}
use Rattle.heap_layout.specs.declared.kind.Kind.{Kind}
use Rattle.cell_steps.specs.Setup.{Setup}
use Rattle.cell_steps.specs.Passes.{did, MayRefer}
use Rattle.cell_steps.specs.declared.pass.Pass.{Pass}
use Rattle.page_cells.specs.Calls.{Grows}
use Rattle.comp_access.specs.Reads.{IsNeverBusy, MayBuildTouched}
use Rattle.comp_access.specs.Writes.{DataRefused, ReferenceRefused, Writes}
use Rattle.comp_access.specs.declared.refusal.Refusal.{Refusal}

-- A call wrote the value into the object's field of this kind and number, and this is its answer: the stamp of its
-- entry, or a refusal. The call found the pass as the old one and left it as the new one.
pub record IsWrite (u : Setup) (old new : Pass) (kind : Kind) (object field value : ℕ) (answer : Result ℕ Refusal) : Type 0 where
  -- the pass keeps what it has seen, built and known
  pub grows : Grows old new
  -- the call wrote one entry, and the answer is its stamp
  pub wrote : IfOk answer (Writes u old new kind object field value)
  -- only null, an immediate, or a start that the pass knows is written into a reference or weak field
  pub target : refers kind ≡ true → OnOk answer (MayRefer new value)
  -- the call built no page other than the field's
  pub builds : OnOk answer (MayBuildTouched u old new kind object field)
  -- a refused call wrote nothing
  pub did : OnErr answer (did new ≡ did old)
  -- why a write into a data field was refused
  pub data_refused : refers kind ≡ false → IfErr answer (DataRefused u old new kind object field)
  -- why a write into a reference or weak field was refused
  pub reference_refused : refers kind ≡ true → IfErr answer (ReferenceRefused u old new kind object field value)
  -- no page is busy for the only mutator of a setup
  pub alone : u.mutators ≡ 1 → IsNeverBusy answer
