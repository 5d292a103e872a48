use Rattle.std.proofs.Common.{◌≡◌, ◌<◌, ◌≤◌, length}
use Rattle.std.specs.Io.KnownBytes.{Consumes}
use Rattle.heap_layout.specs.Counted.{inner_of, failures_of}
use Rattle.command_io.specs.LongLines.{longest}
use Rattle.command_io.proofs.LongLines.{IsReadTo}
use Rattle.command_io.proofs.texts.text_by.Given as goal

-- what was read so far is the text, no line of it is too long, each turn read something, and there is room for a piece
abbrev pub invariant-loop-turn : goal.invariant-loop-turn
invariant-loop-turn g l = record {
  read : Consumes (g.S.Read.remaining (inner_of l.fn.r)) (g.S.Read.remaining (inner_of l.r)) l.text.items;
  lines : IsReadTo longest l.text.items l.room;
  few : l.room ≤ longest;
  turns : l._turn ≤ length l.text.items;
  none_failed : failures_of l.r ≡ failures_of l.fn.r;
  room : 0 < length l.piece;
}
