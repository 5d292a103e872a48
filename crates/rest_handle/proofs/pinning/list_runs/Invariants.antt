use Rattle.std.proofs.Common.{◌≡◌, ◌*◌, ◌++◌, drop, length, take}
use Rattle.std.specs.List.{flat_map}
use Rattle.rest_handle.specs.Pinning.{run_ends}
use Rattle.rest_handle.proofs.pinning.list_runs.Given as goal

-- the first k runs are listed
abbrev pub invariant-loop-k : goal.invariant-loop-k
invariant-loop-k l = record {
  long : length l.out ≡ length l.fn.out;
  listed : l.out ≡ flat_map run_ends (take l.k l.runs) ++ drop (2 * l.k) l.fn.out;
}
