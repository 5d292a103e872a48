use Rattle.std.proofs.Common.{◌≡◌, ◌+◌, ◌≤◌, ◌++◌, drop, length, vec_capacity}
use Rattle.commands.proofs.Walking.{left_of, shown_by, walked}
use Rattle.commands.proofs.by_line.by_line.Given as goal

-- what was taken so far, and what the walk takes from here on, is what it takes of all lines
abbrev pub invariant-loop-at : goal.invariant-loop-at
invariant-loop-at l = record {
  walk : l.shown.items ++ walked (l.at + 1) (drop l.at l.lines) (left_of l.runs l.next) ≡ walked 1 l.lines (shown_by l.runs);
  few : length l.shown.items ≤ l.at;
  room : vec_capacity l.shown ≡ vec_capacity l.fn.shown;
  slots : length l.next ≡ 64;
}
