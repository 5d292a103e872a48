use Rattle.std.proofs.Common.{◌≡◌, drop, map}
use Rattle.std.specs.String.{string_bytes}
use Rattle.command_line.specs.NextArguments.{says_reachable}
use Rattle.command_line.proofs.next.says_reachable.Given as goal

-- the words before the loop's index say nothing
abbrev pub invariant-loop-word : goal.invariant-loop-word
invariant-loop-word l = says_reachable (map string_bytes (drop l.word-index l.words)) ≡ says_reachable (map string_bytes l.words)
