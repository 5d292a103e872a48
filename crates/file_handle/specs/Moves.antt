-- The judgement of what another collection left of a heap.
use Rattle.std.specs.Prelude.{◌≡◌, ℕ, ◌⊎◌, true, min, List}
use Rattle.heap_layout.specs.Heap.{live, Heap}
use Rattle.page_plan.specs.Sliding.{live_words}
use Rattle.comp_dump.specs.DumpReading.{Fails}
use Rattle.comp_dump.specs.declared.fault.DumpFault.{DumpFault}
use Rattle.moved_heaps.specs.Moved.{IsLawful, Moved}
use Rattle.moved_heaps.specs.MovedFaults.{IsFirstFault}
use Rattle.moved_heaps.specs.MovedFiles.{moved_bytes, IsStored}
use Rattle.moved_heaps.specs.MovedReading.{read_whole}
use Rattle.moved_heaps.specs.declared.fault.HeadPart.{HeadPart}
use Rattle.moved_heaps.specs.declared.fault.HeadPart.TheVariants as part
use Rattle.moved_heaps.specs.declared.fault.MovedFault.{MovedFault}
use Rattle.moved_heaps.specs.declared.fault.MovedFault.TheVariants as moves
use Rattle.handle_base.specs.Answers.{bare, done, two}
use Rattle.handle_base.specs.Statuses.{moved_overlap, moved_place_outside, moved_wrong_head, moved_wrong_root, moved_wrong_word, out_of_memory}
use Rattle.file_handle.specs.Judging.{of_dump}
use Rattle.handle_base.specs.declared.answer.Answer.{Answer}

-- what of a head is wrong
abbrev pub head_number : HeadPart → ℕ
head_number part.Edition = 0
head_number part.Places = 1
head_number part.Roots = 2

-- a fault of a moved heap; second numbers are those of an object, or of a word of one
abbrev pub of_moved : MovedFault → Answer
of_moved (moves.WrongHead its) = bare moved_wrong_head (head_number its)
of_moved (moves.PlaceOutside k) = bare moved_place_outside k
of_moved (moves.Overlap k l) = two moved_overlap k (min l 4294967295)
of_moved (moves.WrongRoot i) = bare moved_wrong_root i
of_moved (moves.WrongWord k i) = two moved_wrong_word k (min i 4294967295)
of_moved moves.OutOfMemory = bare out_of_memory 0

-- a moved heap is lawful, and the answer has the words of the marked objects; or it has the first fault
abbrev pub Judges : Heap → Moved → Answer → Type 0
Judges heap moved a =
    (IsLawful heap moved × (a ≡ done (live_words (live heap))))
    ⊎ ((fault : MovedFault) × IsFirstFault heap moved fault × (a ≡ of_moved fault))

-- the bytes are a moved heap, and it is judged for this heap; or the answer is why none is read
abbrev pub JudgesMoved : List ℕ → Heap → Answer → Type 0
JudgesMoved bytes heap a =
    ((moved : Moved) × (bytes ≡ moved_bytes moved) × IsStored moved × Judges heap moved a)
    ⊎ ((fault : DumpFault) × Fails fault (read_whole true bytes) × (a ≡ of_dump fault))
