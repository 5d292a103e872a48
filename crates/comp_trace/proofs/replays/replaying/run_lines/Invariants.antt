use Rattle.std.proofs.Common.{◌≡◌, ◌<◌, ◌≤◌, length, take, vec_capacity}
use Rattle.comp_mutator.specs.Locks.{Journals}
use Rattle.comp_mutator.specs.Mutators.{setup_of}
use Rattle.comp_trace.specs.LineBuilds.{HaveSeenBuilt}
use Rattle.comp_trace.specs.WrittenEntries.{written_by_each, HaveAll, HaveSeenAll, HaveStart}
use Rattle.comp_trace.specs.AllMutators.{AreAll}
use Rattle.comp_trace.specs.Replays.{BuiltTo, RanNothing, HasReplayed}
use Rattle.comp_trace.specs.RoundsOfMeetings.{AreLater, DidNothing}
use Rattle.comp_trace.specs.Runs.{Moment}
use Rattle.comp_trace.proofs.replays.replaying.run_lines.Given as goal

abbrev pub invariant-loop-j : goal.invariant-loop-j
invariant-loop-j g l = record {
  all : AreAll l.space l.mutators;
  later : AreLater l.fn.mutators l.mutators;
  wide : length l.registers.items ≡ length l.fn.mutators;
  first : l.j ≡ 0 → DidNothing l.fn.mutators l.mutators;
  start : 0 < l.j → HaveStart (setup_of l.space) l.fn.mutators;
  room : (length l.shown.items ≤ l.j) × (length l.lines ≤ vec_capacity l.shown);
  stands : (start : Journals) → HaveAll l.fn.mutators start
      → (now : Moment) × HasReplayed (setup_of l.space) (length l.fn.mutators) start (written_by_each l.fn.mutators) (written_by_each l.mutators) (take l.j l.lines) l.registers.items l.shown.items now
      × BuiltTo l.fn.mutators l.mutators now × HaveSeenBuilt l.mutators now.built;
  empty : length l.lines ≡ 0 → RanNothing l.fn.mutators l.mutators l.shown.items;
  seen : 0 < l.j → HaveSeenAll l.mutators;
}
