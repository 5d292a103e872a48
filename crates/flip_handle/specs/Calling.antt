-- What a call of a mutator does, as C sees it.
use Rattle.std.specs.Prelude.{◌≡◌, ℕ, ◌+◌, ◌<◌, ◌≤◌, ◌⊎◌, List, length, slice_index, Option, Some, Result, Ok, Err, IfOk, IfErr, IsErrOf, OnOk, OnErr}
use Rattle.heap_layout.specs.Header.{header_of, size_of, Head}
use Rattle.heap_layout.specs.declared.kind.Kind.{Kind}
use Rattle.heap_layout.specs.declared.kind.Kind.TheVariants as kinds
use Rattle.comp_crew.specs.Allocations.{Allocates, AllocationRefused}
use Rattle.comp_crew.specs.Calls.{Grows, WroteNothing}
use Rattle.comp_crew.specs.Copies.{builds_after, PageRefused}
use Rattle.comp_crew.specs.Forwarded.{AreForwarded}
use Rattle.comp_crew.specs.HeaderCalls.{IsHeaderRead}
use Rattle.comp_crew.specs.Members.{crew_of, made_of, pass_of, setup_of}
use Rattle.comp_crew.specs.Passes.{builds_of, did, lost, HasSeenBuilt}
use Rattle.comp_crew.specs.ReadCalls.{IsRead}
use Rattle.comp_crew.specs.Reads.{IsNeverBusy, KnowsBuilt}
use Rattle.comp_crew.specs.Setup.{pages}
use Rattle.comp_crew.specs.WriteCalls.{IsWrite}
use Rattle.comp_crew.specs.declared.member.Member.{Member}
use Rattle.comp_crew.specs.Touched.{Touched}
use Rattle.comp_crew.specs.Touched.TheVariants.{Built, AlreadyBuilt}
use Rattle.comp_crew.specs.Refusal.{Refusal}
use Rattle.comp_crew.specs.Refusal.TheVariants.{Busy, OutOfMemory}
use Rattle.handle_base.specs.Answers.{bare, done, of_refusal, IsAnswer, IsPlace}
use Rattle.handle_base.specs.Statuses.{no_such_build, no_such_page, no_such_root}
use Rattle.handle_base.specs.HandleKinds.{mutator_in, Asks}
use Rattle.handle_base.specs.declared.answer.Answer.{Answer}
use Rattle.flip_handle.specs.declared.calling.Call.{Call}
use Rattle.flip_handle.specs.declared.calling.Call.TheVariants.{ReadRef, ReadWeak, ReadData, Header, WriteRef, WriteWeak, WriteData, Alloc, Touch, Root, Build}
use Rattle.handle_base.specs.declared.kept.Kept.{Kept}
use Rattle.handle_base.specs.declared.kept.Kept.TheVariants.{Mutator}

-- a mutator that is alone is never refused a busy page
abbrev pub IsNeverBusyAlone : {T : Type 0} → Member → Result T Refusal → Type 0
IsNeverBusyAlone m r = (setup_of m).mutators ≡ 1 → IsNeverBusy r

-- a read of a field of this kind
pub record ReadsField (kind : Kind) (object field : ℕ) (m n : Member) (r : Result ℕ Refusal) : Type 0 where
  pub crew : crew_of n ≡ crew_of m
  pub made : made_of n ≡ made_of m
  pub read : IsRead (setup_of m) (pass_of m) (pass_of n) kind object field r

-- a read of an object's header
pub record ReadsHeader (object : ℕ) (m n : Member) (r : Result ℕ Refusal) : Type 0 where
  pub crew : crew_of n ≡ crew_of m
  pub made : made_of n ≡ made_of m
  pub header : IsHeaderRead (setup_of m) (pass_of m) (pass_of n) object r

-- a write into a field of this kind
pub record WritesField (kind : Kind) (object field value : ℕ) (m n : Member) (r : Result ℕ Refusal) : Type 0 where
  pub crew : crew_of n ≡ crew_of m
  pub made : made_of n ≡ made_of m
  pub write : IsWrite (setup_of m) (pass_of m) (pass_of n) kind object field value r

-- an allocation of an object with this header
pub record Makes (header : Head) (m n : Member) (r : Result ℕ Refusal) : Type 0 where
  pub crew : crew_of n ≡ crew_of m
  pub grows : Grows (pass_of m) (pass_of n)
  pub made : OnOk r (made_of n ≡ made_of m + size_of header)
  pub allocated : IfOk r (Allocates (setup_of m) (pass_of m) (pass_of n) header)
  pub kept : OnErr r ((did (pass_of n) ≡ did (pass_of m)) × (made_of n ≡ made_of m))
  pub alone : IsNeverBusyAlone m r
  pub refused : IfErr r (AllocationRefused (setup_of m) (pass_of m) (pass_of n) (size_of header))

-- a word, as a header of the heap of this mutator
abbrev pub header_by : Member → ℕ → Head
header_by m word = header_of (setup_of m).heap.edition word

-- 1 if the touch built the page, else 0
abbrev pub touch_number : Touched → ℕ
touch_number Built = 1
touch_number AlreadyBuilt = 0

-- a touch of a page that exists
pub record TouchesPage (p : ℕ) (m n : Member) (r : Result Touched Refusal) : Type 0 where
  pub crew : crew_of n ≡ crew_of m
  pub made : made_of n ≡ made_of m
  pub grows : Grows (pass_of m) (pass_of n)
  pub wrote : WroteNothing (pass_of m) (pass_of n)
  pub touched : IfOk r (λ touched. HasSeenBuilt (pass_of n) p × (builds_of (pass_of n) ≡ builds_after (builds_of (pass_of m)) p touched))
  pub known : KnowsBuilt (pass_of m) p → r ≡ Ok AlreadyBuilt
  pub alone : IsNeverBusyAlone m r
  pub unbuilt : (q : ℕ) → IsErrOf r (Busy q) → HasSeenBuilt (pass_of n) p → ⊥
  -- for want of memory only if it lost no step to another mutator
  pub unlost : IsErrOf r OutOfMemory → lost (pass_of n) p ≡ lost (pass_of m) p
  pub refused : IfErr r (λ refusal. (builds_of (pass_of n) ≡ builds_of (pass_of m)) × PageRefused p (pass_of m) (pass_of n) refusal)

abbrev pub IsTouchAnswer : Result Touched Refusal → Answer → Type 0
IsTouchAnswer (Ok touched) a = a ≡ done (touch_number touched)
IsTouchAnswer (Err refusal) a = a ≡ of_refusal 0 refusal

-- a touch: there is no such page, and nothing has changed, or the page was touched
abbrev pub Touches : ℕ → Member → Member → Answer → Type 0
Touches p m n a =
    ((pages (setup_of m) ≤ p) × (n ≡ m) × (a ≡ bare no_such_page p))
    ⊎ ((p < pages (setup_of m)) × ((r : Result Touched Refusal) × IsTouchAnswer r a × TouchesPage p m n r))

-- the forwarded root with this number, or there is none
abbrev pub IsRoot : ℕ → Member → Answer → Type 0
IsRoot i m a =
    (roots : List ℕ) × AreForwarded (setup_of m).heap roots
    × (((i < length roots) × (a ≡ done (slice_index roots i))) ⊎ ((length roots ≤ i) × (a ≡ bare no_such_root i)))

-- the call answered as a call that did this; n is the field that was asked for, or the size of the object, or 0
abbrev pub Answers : ℕ → (Result ℕ Refusal → Type 0) → Answer → Type 0
Answers n P a = (r : Result ℕ Refusal) × IsAnswer n r a × P r

-- what a call does to the mutator, and what it answers
abbrev pub Does : Call → Member → Member → Answer → Type 0
Does (ReadRef object field) m n a = Answers field (ReadsField kinds.Reference object field m n) a
Does (ReadWeak object field) m n a = Answers field (ReadsField kinds.Weak object field m n) a
Does (ReadData object field) m n a = Answers field (ReadsField kinds.Data object field m n) a
Does (Header object) m n a = Answers 0 (ReadsHeader object m n) a
Does (WriteRef object field value) m n a = Answers field (WritesField kinds.Reference object field value m n) a
Does (WriteWeak object field value) m n a = Answers field (WritesField kinds.Weak object field value m n) a
Does (WriteData object field value) m n a = Answers field (WritesField kinds.Data object field value m n) a
Does (Alloc word) m n a = Answers (size_of (header_by m word)) (Makes (header_by m word) m n) a
Does (Touch p) m n a = Touches p m n a
Does (Root i) m n a = (n ≡ m) × IsRoot i m a
Does (Build i) m n a = (n ≡ m) × IsPlace no_such_build i (builds_of (pass_of m)) a

-- what a call by a handle does: it has a mutator, or nothing happens
abbrev pub Calls : (Member → Member → Answer → Type 0) → Option Kept → Option Kept → Answer → Type 0
Calls P old new a = Asks 0 mutator_in (λ m b. (n : Member) × (new ≡ Some (Mutator n)) × P m n b) (new ≡ old) old a
