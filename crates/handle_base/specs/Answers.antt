-- What C is answered.
use Rattle.std.specs.Prelude.{◌≡◌, ℕ, ◌<◌, ◌≤◌, ◌⊎◌, List, length, slice_index, Result, Ok, Err}
use Rattle.heap_layout.specs.declared.fault.LayoutFault.{LayoutFault}
use Rattle.heap_layout.specs.declared.fault.LayoutFault.TheVariants as layout
use Rattle.comp_crew.specs.Refusal.{Refusal}
use Rattle.comp_crew.specs.Refusal.TheVariants as refusals
use Rattle.rest_marks.specs.declared.fault.CollectFault.{CollectFault}
use Rattle.rest_marks.specs.declared.fault.CollectFault.TheVariants as collect
use Rattle.rest_marks.specs.declared.fault.CollectLentFault.{CollectLentFault}
use Rattle.rest_marks.specs.declared.fault.CollectLentFault.TheVariants as collecting
use Rattle.rest_marks.specs.declared.fault.LentFault.{LentFault}
use Rattle.rest_marks.specs.declared.fault.LentFault.TheVariants as lent
use Rattle.rest_marks.specs.declared.fault.MarksFault.{MarksFault}
use Rattle.rest_marks.specs.declared.fault.MarksFault.TheVariants as marks
use Rattle.rest_marks.specs.declared.fault.SlideFault.{SlideFault}
use Rattle.rest_marks.specs.declared.fault.SlideFault.TheVariants as slide
use Rattle.rest_marks.specs.declared.fault.SurveyFault.{SurveyFault}
use Rattle.rest_marks.specs.declared.fault.SurveyFault.TheVariants as survey
use Rattle.handle_base.specs.Statuses.{bad_reference, bad_root, bad_weak, busy, changed, image_bad_magic, image_trailing, image_truncated, journal_full, mark_not_start, marks_not_rising, no_such_field, no_such_part, not_a_start, not_in_edition, null_object, object_past_end, object_too_large, object_too_long, other_count, out_of_memory, out_of_pages, overlap, short_tables, too_large, too_short, unmarked, unmarked_target, wrong_length}
use Rattle.handle_base.specs.declared.answer.Answer.{Answer}

-- the answer with this status and these two numbers
abbrev pub two : ℕ → ℕ → ℕ → Answer
two status value other = record { status = status; other = other; value = value }

-- the answer with this status and this number
abbrev pub bare : ℕ → ℕ → Answer
bare status value = two status value 0

-- it is done, and this is the result
abbrev pub done : ℕ → Answer
done value = bare 0 value

-- the number at place i of a list; or there is none, and the answer has this status
abbrev pub IsPlace : ℕ → ℕ → List ℕ → Answer → Type 0
IsPlace status i list a = ((i < length list) × (a ≡ done (slice_index list i))) ⊎ ((length list ≤ i) × (a ≡ bare status i))

-- A call of a mutator was refused. The number is the field that was asked for, or the size of the object. No call that
-- is exported is not_in_edition: a header word says nothing that its edition lacks.
abbrev pub of_refusal : ℕ → Refusal → Answer
of_refusal n (refusals.Busy p) = bare busy p
of_refusal n refusals.Null = bare null_object 0
of_refusal n (refusals.NotAStart a) = bare not_a_start a
of_refusal n refusals.NoSuchField = bare no_such_field n
of_refusal n refusals.NotInEdition = bare not_in_edition 0
of_refusal n refusals.ObjectTooLarge = bare object_too_large n
of_refusal n refusals.OutOfPages = bare out_of_pages 0
of_refusal n (refusals.JournalFull p) = bare journal_full p
of_refusal n refusals.OutOfMemory = bare out_of_memory 0

-- the answer of a call of a mutator
abbrev pub IsAnswer : ℕ → Result ℕ Refusal → Answer → Type 0
IsAnswer n (Ok value) a = a ≡ done value
IsAnswer n (Err refusal) a = a ≡ of_refusal n refusal

-- a heap was not accepted
abbrev pub of_layout : LayoutFault → Answer
of_layout layout.TooLarge = bare too_large 0
of_layout (layout.ObjectPastEnd i) = bare object_past_end i
of_layout (layout.ObjectTooLong i) = bare object_too_long i
of_layout (layout.MarkNotStart i) = bare mark_not_start i
of_layout (layout.MarksNotRising i) = bare marks_not_rising i
of_layout (layout.BadRoot i) = bare bad_root i
of_layout (layout.UnmarkedTarget i) = bare unmarked_target i
of_layout layout.Truncated = bare image_truncated 0
of_layout layout.TrailingBytes = bare image_trailing 0
of_layout layout.BadMagic = bare image_bad_magic 0
of_layout layout.OutOfMemory = bare out_of_memory 0
of_layout layout.Device = bare out_of_memory 0
of_layout (layout.BadWeak i) = bare bad_weak i

-- words and roots were not surveyed
abbrev pub of_survey : SurveyFault → Answer
of_survey survey.TooLarge = bare too_large 0
of_survey (survey.BadRoot k) = bare bad_root k
of_survey (survey.BadReference i) = bare bad_reference i
of_survey (survey.BadWeak i) = bare bad_weak i
of_survey (survey.ObjectTooLong i) = bare object_too_long i
of_survey (survey.ObjectPastEnd i) = bare object_past_end i
of_survey (survey.Overlap i) = bare overlap i
of_survey survey.OutOfMemory = bare out_of_memory 0

-- words were not surveyed by marks of the caller's own
abbrev pub of_marks : MarksFault → Answer
of_marks marks.TooLarge = bare too_large 0
of_marks marks.WrongLength = bare wrong_length 0
of_marks (marks.BadRoot k) = bare bad_root k
of_marks (marks.ObjectTooLong i) = bare object_too_long i
of_marks (marks.ObjectPastEnd i) = bare object_past_end i
of_marks (marks.Overlap i) = bare overlap i
of_marks (marks.UnmarkedTarget i) = bare unmarked_target i
of_marks (marks.BadWeak i) = bare bad_weak i
of_marks marks.OutOfMemory = bare out_of_memory 0

-- a part was not filled
abbrev pub of_slide : SlideFault → Answer
of_slide slide.NoSuchPart = bare no_such_part 0
of_slide slide.OtherCount = bare other_count 0
of_slide (slide.Changed i) = bare changed i
of_slide (slide.Unmarked i) = bare unmarked i

-- a heap was not collected
abbrev pub of_collect : CollectFault → Answer
of_collect (collect.Survey fault) = of_survey fault
of_collect (collect.NoRoom count) = bare too_short count

-- words and roots were not surveyed by tables that were lent
abbrev pub of_lent : LentFault → Answer
of_lent (lent.ShortTables room) = bare short_tables room
of_lent (lent.Survey fault) = of_survey fault

-- a heap was not collected by tables that were lent
abbrev pub of_collect_lent : CollectLentFault → Answer
of_collect_lent (collecting.ShortTables room) = bare short_tables room
of_collect_lent (collecting.Collect fault) = of_collect fault
