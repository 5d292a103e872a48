-- A copy of a page, as a mutator sees it while others go on.
use Rattle.std.specs.Prelude.{◌≡◌, ℕ, ◌<◌, ◌≤◌, ◌⊎◌, List, length, Option, Some, Result, Ok, Err, IfOk, IfErr}
use Rattle.comp_crew.specs.Calls.{Grows}
use Rattle.comp_crew.specs.Copies.{CopyRefused, IsCopy}
use Rattle.comp_crew.specs.Members.{crew_of, made_of, pass_of, setup_of}
use Rattle.comp_crew.specs.PageCopy.{PageCopy}
use Rattle.comp_crew.specs.Passes.{did}
use Rattle.comp_crew.specs.Reads.{MayBuild}
use Rattle.comp_crew.specs.Refusal.{Refusal}
use Rattle.comp_crew.specs.Setup.{pages}
use Rattle.comp_crew.specs.declared.member.Member.{Member}
use Rattle.handle_base.specs.Answers.{bare, done, of_refusal}
use Rattle.handle_base.specs.Statuses.{no_such_page}
use Rattle.flip_handle.specs.Calling.{IsNeverBusyAlone}
use Rattle.handle_base.specs.HandleKinds.{mutator_in, Asks}
use Rattle.handle_base.specs.declared.answer.Answer.{Answer}
use Rattle.handle_base.specs.declared.kept.Kept.{Kept}
use Rattle.handle_base.specs.declared.kept.Kept.TheVariants as kept

-- a copy of a page that exists: its words and its journal as the mutator has seen them after the call. The page may
-- have been built by the call, also by one that is refused
pub record SeesPage (p : ℕ) (m n : Member) (r : Result PageCopy Refusal) : Type 0 where
  pub crew : crew_of n ≡ crew_of m
  pub made : made_of n ≡ made_of m
  pub grows : Grows (pass_of m) (pass_of n)
  pub wrote : did (pass_of n) ≡ did (pass_of m)
  pub copy : IfOk r (IsCopy (setup_of m) (pass_of n) p)
  pub builds : MayBuild p (pass_of m) (pass_of n)
  pub alone : IsNeverBusyAlone m r
  pub refused : IfErr r (CopyRefused p (pass_of m) (pass_of n))

-- the buffer has the words of the copy, and the answer how many entries its journal has; or the buffer is as it was,
-- and the answer says why
abbrev pub IsCopyAnswer : Result PageCopy Refusal → List ℕ → List ℕ → Answer → Type 0
IsCopyAnswer (Ok copy) before after a = (after ≡ copy.words) × (a ≡ done (length copy.journal.items))
IsCopyAnswer (Err refusal) before after a = (after ≡ before) × (a ≡ of_refusal 0 refusal)

-- page p is copied; or there is no such page, and nothing has changed
abbrev pub CopiesSeen : ℕ → List ℕ → List ℕ → Member → Member → Answer → Type 0
CopiesSeen p before after m n a =
    ((pages (setup_of m) ≤ p) × (n ≡ m) × (after ≡ before) × (a ≡ bare no_such_page p))
    ⊎ ((p < pages (setup_of m)) × ((r : Result PageCopy Refusal) × IsCopyAnswer r before after a × SeesPage p m n r))

-- the same for the mutator that a handle keeps; or it keeps none, and nothing has changed
abbrev pub SeesBy : ℕ → List ℕ → List ℕ → Option Kept → Option Kept → Answer → Type 0
SeesBy p before after old new a =
    Asks 0 mutator_in (λ m b. (n : Member) × (new ≡ Some (kept.Mutator n)) × CopiesSeen p before after m n b) ((new ≡ old) × (after ≡ before)) old a
