-- What `next` leaves, by the bytes of its files: it is one function of them. Runs that follow one another are one life.
use Rattle.std.specs.Prelude.{◌≡◌, ℕ, List, [], ◌∷◌, ◌++◌, length, Option, Some, None, Ok}
use Rattle.heap_layout.specs.Encoding.{encoding}
use Rattle.heap_layout.specs.Faults.{IsAccepted}
use Rattle.heap_layout.specs.Heap.{Heap, IsStored}
use Rattle.comp_mutator.specs.Cycles.{Cycle, Follow, IsOneLife}
use Rattle.comp_trace.specs.MarksText.{marks_of}
use Rattle.comp_trace.specs.declared.text.roots.NewRoot.{NewRoot}
use Rattle.comp_trace.specs.RootsText.{new_roots_of}
use Rattle.comp_trace.specs.declared.text.line.Line.{Line}
use Rattle.comp_trace.specs.declared.steps.shown.Shown.{Shown}
use Rattle.command_io.specs.Texts.{HasLines}
use Rattle.commands.specs.TraceTasks.{IsCycledHeap}
use Rattle.commands.specs.Inputs.{Given}

-- these are the marks of the text, and none if there is no text
abbrev pub AreMarksIn : Option (List ℕ) → Option (List ℕ) → Type 0
AreMarksIn (Some text) given = (marks : List ℕ) × (marks_of text ≡ Ok marks) × (given ≡ Some marks)
AreMarksIn None given = given ≡ None

-- these are the roots of the text, and none if there is no text
abbrev pub AreRootsIn : ℕ → Option (List ℕ) → Option (List NewRoot) → Type 0
AreRootsIn mutators (Some text) given = (roots : List NewRoot) × (new_roots_of mutators text ≡ Ok roots) × (given ≡ Some roots)
AreRootsIn mutators None given = given ≡ None

-- The bytes of an image are those of a stored and accepted heap, the text is a trace for it, and the other texts have
-- marks and roots, if there are such texts. The run of the trace showed these values, and this heap followed, with the
-- marks, or marked by what its roots reach; and with the roots, or with those that stay.
pub record IsNext (mutators fresh : ℕ) (image text : List ℕ) (marks_text roots_text : Option (List ℕ)) (shown : List Shown) (next : Heap) : Type 0 where
  pub heap : Heap
  pub stored : IsStored heap
  pub accepted : IsAccepted heap
  pub image_is : image ≡ encoding heap
  pub lines : List Line
  pub text_is : HasLines mutators (length heap.roots) lines text
  pub given : Given
  pub marks_are : AreMarksIn marks_text given.marks
  pub roots_are : AreRootsIn mutators roots_text given.roots
  pub cycled : IsCycledHeap mutators fresh lines shown given heap next

-- Two runs showed the same values, and the same heap followed, so its image and its live words are the same.
pub record LeaveOne (shown others : List Shown) (next other : Heap) : Type 0 where
  pub values : shown ≡ others
  pub heaps : next ≡ other

-- the same bytes, with the same numbers of mutators and of fresh pages, have one next heap
abbrev pub NextIsOne : Type 0
NextIsOne = (mutators fresh : ℕ) (image text : List ℕ) (marks_text roots_text : Option (List ℕ)) (shown others : List Shown) (next other : Heap)
    → IsNext mutators fresh image text marks_text roots_text shown next → IsNext mutators fresh image text marks_text roots_text others other → LeaveOne shown others next other

-- after cycles that lead to a heap, a run over that heap's image is one cycle more
abbrev pub NextFollows : Type 0
NextFollows = (first heap next : Heap) (cycles : List Cycle) (mutators fresh : ℕ) (text : List ℕ) (marks_text roots_text : Option (List ℕ)) (shown : List Shown)
    → IsStored heap → IsAccepted heap → Follow first cycles heap → (run : IsNext mutators fresh (encoding heap) text marks_text roots_text shown next) → Follow first (cycles ++ run.cycled.cycle ∷ []) next

-- cycles that lead from an accepted heap to another are one life of a heap whose objects never move
abbrev pub AreOneLife : Type 0
AreOneLife = (first last : Heap) (cycles : List Cycle) → IsAccepted first → Follow first cycles last → IsOneLife first cycles last

-- two runs, of which the second reads the image that the first left, are one life
abbrev pub TwoAreOneLife : Type 0
TwoAreOneLife = (mutators fresh second_mutators second_fresh : ℕ) (image text second_text : List ℕ) (marks_text second_marks roots_text second_roots : Option (List ℕ)) (shown values : List Shown) (next last : Heap)
    → (run : IsNext mutators fresh image text marks_text roots_text shown next) → (second : IsNext second_mutators second_fresh (encoding next) second_text second_marks second_roots values last)
    → IsOneLife run.heap (run.cycled.cycle ∷ second.cycled.cycle ∷ []) last
