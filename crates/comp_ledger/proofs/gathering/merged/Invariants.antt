use Rattle.std.proofs.Common.{◌≡◌, ◌+◌, ◌<◌, ◌≤◌, length}
use Rattle.comp_ledger.specs.Shares.{total_posted}
use Rattle.comp_ledger.proofs.gathering.merged.Given as goal

abbrev pub invariant-loop-share : goal.invariant-loop-share
invariant-loop-share g l = record {
  parts : l.all.parts + length l.shares.items ≡ length l.fn.shares.items;
  amount : l.all.amount + total_posted l.shares.items ≡ total_posted l.fn.shares.items;
  some : 1 ≤ l.all.parts;
  few : 1 < l.all.parts → l.all.parts ≤ g.L.Ledger.parts;
}

abbrev pub decreases-loop-share : goal.decreases-loop-share
decreases-loop-share g l = goal.left-loop-share g l
