use Rattle.std.proofs.Common.{◌≡◌, length}
use Rattle.comp_mutator.specs.Mutators.{AreMutatorsOf}
use Rattle.comp_mutator.specs.declared.mutator.Mutator.{Mutator}
use Rattle.comp_trace.specs.RoundsOfMeetings.{row}
use Rattle.comp_trace.proofs.MeetingRounds.{MetBelow}
use Rattle.comp_trace.proofs.steps.stepping.meet_others.Given as goal

abbrev pub invariant-loop-k : goal.invariant-loop-k
invariant-loop-k g l = record {
  of : AreMutatorsOf l.space l.mutators;
  long : length l.mutators ≡ length l.fn.mutators;
  met : (d : Mutator g.row.L.Denot) → MetBelow (length l.fn.mutators) l.i l.k (row d l.fn.mutators) (row d l.mutators);
}

abbrev pub invariant-loop-k-2 : goal.invariant-loop-k-2
invariant-loop-k-2 g l = record {
  of : AreMutatorsOf l.space l.mutators;
  long : length l.mutators ≡ length l.fn.mutators;
  met : (d : Mutator g.row.L.Denot) → MetBelow (length l.fn.mutators) l.i l.k (row d l.fn.mutators) (row d l.mutators);
}
