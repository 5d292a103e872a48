use Rattle.std.proofs.Common.{◌≡◌, length, ◌+◌, ◌≤◌}
use Rattle.comp_trace.specs.Grammar.{parts}
use Rattle.comp_trace.specs.MarksText.{marks_from, marks_of}
use Rattle.comp_trace.proofs.Marked.{behind}
use Rattle.comp_trace.proofs.text.marks.read_marks.Given as goal

-- the marks so far, and those of what is left
abbrev pub invariant-loop-rest : goal.invariant-loop-rest
invariant-loop-rest l = record {
  read : marks_of l.text ≡ behind l.marks.items (marks_from l.n (parts 10 l.rest));
  count : l.n + length l.rest ≤ length l.text + 1;
}

abbrev pub decreases-loop-rest : goal.decreases-loop-rest
decreases-loop-rest l = length l.rest
