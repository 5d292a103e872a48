use Rattle.std.proofs.Common.{◌≡◌, true, length, ◌+◌, ◌≤◌}
use Rattle.std.specs.List.{list_all}
use Rattle.comp_trace.specs.Grammar.{is_within, parts, read_from, trace_of}
use Rattle.comp_trace.proofs.Lines.{before}
use Rattle.comp_trace.proofs.text.parsing.parse.Given as goal

-- the lines so far, and those of what is left
abbrev pub invariant-loop-rest : goal.invariant-loop-rest
invariant-loop-rest l = record {
  read : trace_of l.mutators l.roots l.text ≡ before l.lines.items (read_from l.mutators l.roots l.n (parts 10 l.rest));
  within : list_all (is_within l.mutators l.roots) l.lines.items ≡ true;
  count : l.n + length l.rest ≤ length l.text + 1;
}

abbrev pub decreases-loop-rest : goal.decreases-loop-rest
decreases-loop-rest l = length l.rest
