-- What is copied into a buffer of C.
use Rattle.std.specs.Prelude.{◌≡◌, ℕ, ◌<◌, ◌≤◌, ◌⊎◌, ◌++◌, List, length, drop}
use Rattle.comp_crew.specs.Finishes.{roots_of}
use Rattle.comp_crew.specs.Finishing.{finished_of}
use Rattle.comp_crew.specs.Forwarded.{AreForwarded}
use Rattle.comp_crew.specs.Members.{setup_of}
use Rattle.comp_crew.specs.declared.finishing.Ended.{Ended as End}
use Rattle.comp_crew.specs.declared.member.Member.{Member}
use Rattle.handle_base.specs.Answers.{bare, done}
use Rattle.handle_base.specs.Statuses.{out_of_memory, too_short}
use Rattle.handle_base.specs.declared.answer.Answer.{Answer}

-- the whole list stands at the front of the buffer, and the answer has its length; or the buffer is shorter and stays
-- as it was, and the answer has the length that it lacks
abbrev pub CopiesAll : List ℕ → List ℕ → List ℕ → Answer → Type 0
CopiesAll list before after a =
    ((length list ≤ length before) × (after ≡ list ++ drop (length list) before) × (a ≡ done (length list)))
    ⊎ ((length before < length list) × (after ≡ before) × (a ≡ bare too_short (length list)))

-- the forwarded roots of a mutator's heap
abbrev pub CopiesRoots : List ℕ → List ℕ → Member → Answer → Type 0
CopiesRoots before after m a = (roots : List ℕ) × AreForwarded (setup_of m).heap roots × CopiesAll roots before after a

-- the roots of a finished heap
abbrev pub CopiesEndRoots : List ℕ → List ℕ → End → Answer → Type 0
CopiesEndRoots before after e a = CopiesAll (roots_of (finished_of e)) before after a

-- the same; or there is no memory for the list, for which the buffer is long enough, and the buffer stays as it was
abbrev pub WritesBytes : List ℕ → List ℕ → List ℕ → Answer → Type 0
WritesBytes list before after a = CopiesAll list before after a ⊎ ((length list ≤ length before) × (after ≡ before) × (a ≡ bare out_of_memory 0))
