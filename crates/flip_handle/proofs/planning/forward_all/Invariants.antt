use Rattle.std.proofs.Common.{◌≡◌, ℕ, ◌<◌, ◌≤◌, length, get_or}
use Rattle.flip_handle.specs.Planning.{led_by_plan}
use Rattle.flip_handle.proofs.planning.forward_all.Given as goal

-- the first k addresses are forwarded
abbrev pub invariant-loop-k : goal.invariant-loop-k
invariant-loop-k l = record {
  long : length l.addresses ≡ length l.fn.addresses;
  done : (j : ℕ) → j < l.k → get_or l.addresses j 0 ≡ led_by_plan l.plan (get_or l.fn.addresses j 0);
  rest : (j : ℕ) → l.k ≤ j → get_or l.addresses j 0 ≡ get_or l.fn.addresses j 0;
}
