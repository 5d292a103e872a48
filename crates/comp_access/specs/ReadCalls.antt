-- What a call that reads a field does, and what it answers.
use Rattle.std.specs.Prelude.{◌≡◌, ℕ, Result, IfErr, IfOk, IsErrOf, OnOk, true}
use Rattle.heap_layout.specs.Kinds.{refers}
use Rattle.heap_layout.specs.declared.kind.Kind.{Kind}
use Rattle.cell_steps.specs.Setup.{Setup}
use Rattle.cell_steps.specs.Starts.{IsForwardingAddress}
use Rattle.cell_steps.specs.Passes.{did, seen, HasSeenBuilt, MayRefer}
use Rattle.cell_steps.specs.declared.pass.Pass.{Pass}
use Rattle.page_cells.specs.Calls.{Grows}
use Rattle.comp_access.specs.Reads.{FieldRefused, IsNeverBusy, KnowsBuilt, MayBuildTouched, Reads}
use Rattle.comp_access.specs.declared.refusal.Refusal.{Refusal}
use Rattle.comp_access.specs.declared.refusal.Refusal.TheVariants.{Busy}

-- A call read the object's field of this kind and number, and this is its answer: the field's word, or a refusal. The
-- call found the pass as the old one and left it as the new one.
pub record IsRead (u : Setup) (old new : Pass) (kind : Kind) (object field : ℕ) (answer : Result ℕ Refusal) : Type 0 where
  -- the pass keeps what it has seen, built and known
  pub grows : Grows old new
  -- it wrote nothing
  pub did : did new ≡ did old
  -- the answer is the field's word, as the pass has now seen it on the field's page
  pub word : IfOk answer (Reads u (seen new) kind object field)
  -- the answer of a reference or weak field is null, an immediate, or a start that the pass knows
  pub known : refers kind ≡ true → IfOk answer (MayRefer new)
  -- the call built no page other than the field's
  pub builds : OnOk answer (MayBuildTouched u old new kind object field)
  -- why the call was refused
  pub refused : IfErr answer (FieldRefused u old new kind object field)
  -- no page is busy for the only mutator of a setup
  pub alone : u.mutators ≡ 1 → IsNeverBusy answer
  -- a page is not busy if the pass knew that it is built
  pub free : (q : ℕ) → IsErrOf answer (Busy q) → KnowsBuilt old q → ⊥
  -- a page is busy only if the object is of the slid heap
  pub slid : (q : ℕ) → IsErrOf answer (Busy q) → IsForwardingAddress u.heap object
  -- the pass has not seen the busy page built
  pub unseen : (q : ℕ) → IsErrOf answer (Busy q) → HasSeenBuilt new q → ⊥
