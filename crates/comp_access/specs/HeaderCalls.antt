-- What a call that asks for an object's header does, and what it answers.
use Rattle.std.specs.Prelude.{◌≡◌, ◌≢◌, ℕ, Result, IfErr, IfOk, OnOk}
use Rattle.heap_layout.specs.Header.{header_of, Head}
use Rattle.cell_steps.specs.Setup.{Setup}
use Rattle.cell_steps.specs.Locks.{Journals}
use Rattle.cell_steps.specs.Starts.{IsForwardingAddress}
use Rattle.cell_steps.specs.Passes.{did, seen, KnowsStart}
use Rattle.cell_steps.specs.declared.pass.Pass.{Pass}
use Rattle.page_cells.specs.Calls.{Grows, SeesNothingNew}
use Rattle.page_cells.specs.Objects.{HasShape, HasSlid}
use Rattle.comp_access.specs.Reads.{BuildsNothing}
use Rattle.comp_access.specs.declared.refusal.Refusal.{Refusal}
use Rattle.comp_access.specs.declared.refusal.Refusal.TheVariants.{Null, NotAStart, NoSuchField, NotInEdition, ObjectTooLarge, OutOfPages, Busy, JournalFull, OutOfMemory}

-- This is the header word of the object if the pages have these journals: that with which it slid, or that of the entry
-- that made it.
pub record IsHeaderWord (u : Setup) (journals : Journals) (object word : ℕ) : Type 0 where
  pub shape : HasShape u journals object (header_of u.heap.edition word)
  -- if the object is of the slid heap, this header is its own
  pub slid : (own : Head) → HasSlid u object own → own ≡ header_of u.heap.edition word

-- why a call that asks for a header is refused; it has seen nothing new then
abbrev pub HeaderRefused : Pass → Pass → ℕ → Refusal → Type 0
HeaderRefused old new object Null = (object ≡ 0) × SeesNothingNew old new
HeaderRefused old new object (NotAStart a) = (a ≡ object) × (object ≢ 0) × (KnowsStart old object → ⊥) × SeesNothingNew old new
HeaderRefused old new object NoSuchField = ⊥
HeaderRefused old new object NotInEdition = ⊥
HeaderRefused old new object ObjectTooLarge = ⊥
HeaderRefused old new object OutOfPages = ⊥
HeaderRefused old new object (Busy p) = ⊥
HeaderRefused old new object (JournalFull p) = ⊥
HeaderRefused old new object OutOfMemory = ⊥

-- A call asked for the object's header, and this is its answer: the header's word, or a refusal. The call found the
-- pass as the old one and left it as the new one.
pub record IsHeaderRead (u : Setup) (old new : Pass) (object : ℕ) (answer : Result ℕ Refusal) : Type 0 where
  -- the pass keeps what it has seen, built and known
  pub grows : Grows old new
  -- it wrote nothing, and built no page
  pub did : did new ≡ did old
  pub builds : BuildsNothing old new
  -- the answer is the header's word
  pub word : IfOk answer (IsHeaderWord u (seen new) object)
  -- the pass knows that the object starts there
  pub known : OnOk answer (KnowsStart new object)
  -- if the object is of the slid heap (the plan has its header), the pass has seen nothing new
  pub apart : IsForwardingAddress u.heap object → SeesNothingNew old new
  -- why the call was refused
  pub refused : IfErr answer (HeaderRefused old new object)
