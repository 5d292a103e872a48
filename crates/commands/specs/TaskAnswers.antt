-- What the answers of the program's own functions stand for.
use Rattle.std.specs.Prelude.{◌≡◌, ◌⊎◌, ℕ, List, [], ◌++◌, Option, None, Some, Result, Ok, Err, codes}
use Rattle.std.specs.String.{string_bytes}
use Rattle.heap_layout.specs.Encoding.{encoding}
use Rattle.heap_layout.specs.Heap.{live}
use Rattle.page_plan.specs.Sliding.{live_words}
use Rattle.comp_mutator.specs.Finishes.{IsOfFlip}
use Rattle.comp_mutator.specs.Refusal.TheVariants as refusals
use Rattle.comp_trace.specs.declared.replays.running.Halt.{Halt}
use Rattle.comp_trace.specs.declared.replays.running.Halt.TheVariants.{Cut, Unflipped, Unfinished, Unplanned}
use Rattle.command_io.specs.Disk.{Disk, IsOfMaking, LeavesCounted}
use Rattle.command_io.specs.Printing.{help_lines, line_of, named, version_line}
use Rattle.command_io.specs.declared.refusal.Output.TheVariants as outputs
use Rattle.command_io.specs.declared.refusal.CommandRefusal.{CommandRefusal}
use Rattle.command_io.specs.declared.refusal.CommandRefusal.TheVariants.{Audit, Mutator, OutOfMemory, Trace}
use Rattle.commands.specs.HeapTasks.{count_lines, moves_lines, page_lines, root_lines}
use Rattle.commands.specs.Outcome.{Outcome, makes, prints, stops}
use Rattle.commands.specs.TraceTasks.{dumps, run_lines, shown_lines}
use Rattle.commands.specs.declared.answers.Answer.{Answer}
use Rattle.commands.specs.declared.answers.Answer.TheVariants as answers

-- what an answer comes to
abbrev pub outcome_of : Answer → Outcome
outcome_of (answers.Planned plan roots) = prints (count_lines (live plan) ++ page_lines (live plan) ++ root_lines roots.items)
outcome_of (answers.Word word) = prints (line_of word)
outcome_of (answers.Ran left) = dumps left.mutators left.fresh left.shown.items left.finished
outcome_of (answers.Followed shown heap) = makes outputs.New (encoding heap) (run_lines shown.items (live_words (live heap)))
outcome_of (answers.Drawn picture words) = makes outputs.Map (string_bytes picture) (named (codes "live ") words)
outcome_of (answers.Passed words) = prints (named (codes "ok ") words)
outcome_of (answers.Explained text None) = prints (string_bytes text)
outcome_of (answers.Explained text (Some fault)) = stops (string_bytes text) (Audit fault)
outcome_of (answers.Moved moves) = prints (moves_lines moves.words moves.objects)
outcome_of (answers.Halted shown refusal) = stops (shown_lines shown.items) refusal
outcome_of (answers.Help text) = prints (help_lines (string_bytes text))
outcome_of answers.Version = prints version_line

-- the numbers of mutators and of fresh pages in an answer are those of its heap's flip
abbrev pub IsLawful : Answer → Type 0
IsLawful (answers.Ran left) = IsOfFlip left.mutators left.fresh left.finished
IsLawful _ = Unit {0}

-- what comes of a result: a refusal prints nothing
abbrev pub IsComing : (Outcome → Type 0) → Result Answer CommandRefusal → Type 0
IsComing comes (Ok answer) = comes (outcome_of answer) × IsLawful answer
IsComing comes (Err refusal) = comes (stops [] refusal)

-- the same of a task whose files are read first: if they were not, `unread` says why
abbrev pub IsAnswered : {F W : Type 0} → Disk F W → F → F → (Outcome → Type 0) → (CommandRefusal → Type 0) → Result Answer CommandRefusal → Type 0
IsAnswered disk from to comes unread (Ok answer) = comes (outcome_of answer) × IsLawful answer × (to ≡ from)
IsAnswered disk from to comes unread (Err refusal) = (unread refusal × LeavesCounted disk from to refusal) ⊎ (comes (stops [] refusal) × (to ≡ from))

-- what a halted run comes to: only lines that were cut short come with values
abbrev pub halted_outcome : Halt → Outcome
halted_outcome Unplanned = stops [] OutOfMemory
halted_outcome Unflipped = stops [] (Mutator refusals.OutOfMemory)
halted_outcome (Cut stopped) = stops (shown_lines stopped.shown.items) (Trace stopped.fault)
halted_outcome (Unfinished shown) = stops [] (Mutator refusals.OutOfMemory)
