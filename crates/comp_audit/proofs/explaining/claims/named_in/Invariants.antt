use Rattle.std.proofs.Common.{◌≡◌, ◌+◌, ◌*◌, ◌^◌, ◌≤◌, drop}
use Rattle.comp_dump.specs.CellEnds.{lists as items_of}
use Rattle.comp_dump.specs.Builds.{named}
use Rattle.comp_audit.proofs.explaining.claims.named_in.Given as goal

abbrev pub invariant-loop-list : goal.invariant-loop-list
invariant-loop-list l = record {
  named : l.named + named l.p (drop l.list-index (items_of l.builds)) ≡ named l.p (items_of l.builds);
  few : l.named ≤ 2 ^ 32 * l.list-index;
}
