use Rattle.std.proofs.Common.{◌≡◌, ◌<◌, ◌≤◌, length}
use Rattle.std.specs.Io.KnownBytes.{Consumes}
use Rattle.heap_layout.specs.Counted.{inner_of, failures_of}
use Rattle.command_io.proofs.whole.whole_by.Given as goal

-- what was read so far is the beginning, each turn read something, and there is room for a piece
abbrev pub invariant-loop-turn : goal.invariant-loop-turn
invariant-loop-turn g l = record {
  read : Consumes (g.S.Read.remaining (inner_of l.fn.r)) (g.S.Read.remaining (inner_of l.r)) l.whole.items;
  turns : l._turn ≤ length l.whole.items;
  none_failed : failures_of l.r ≡ failures_of l.fn.r;
  room : 0 < length l.piece;
}
