use Rattle.std.proofs.Common.{◌≡◌, ◌≤◌, take, vec_capacity}
use Rattle.cell_steps.specs.Lawful.{kinds_in}
use Rattle.comp_history.proofs.kinds.kinds_made.Given as goal

abbrev pub invariant-loop-entry : goal.invariant-loop-entry
invariant-loop-entry l = record {
  made : l.kinds.items ≡ kinds_in l.edition (take l.entry-index l.journal);
  room : 64 ≤ vec_capacity l.kinds;
}
