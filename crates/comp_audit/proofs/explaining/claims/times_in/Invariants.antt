use Rattle.std.proofs.Common.{◌≡◌, ◌+◌, ◌≤◌, drop}
use Rattle.comp_dump.specs.Lists.{times}
use Rattle.comp_audit.proofs.explaining.claims.times_in.Given as goal

abbrev pub invariant-loop-q : goal.invariant-loop-q
invariant-loop-q l = record {
  times : l.times + times l.p (drop l.q-index l.list) ≡ times l.p l.list;
  few : l.times ≤ l.q-index;
}
