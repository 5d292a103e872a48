use Rattle.std.proofs.Common.{◌≡◌, ◌≤◌, replicate, vec_len, vec_capacity}
use Rattle.comp_trace.specs.Acting.{null_registers}
use Rattle.comp_trace.proofs.replays.replaying.all_null.Given as goal

abbrev pub invariant-loop-i : goal.invariant-loop-i
invariant-loop-i l = record {
  items : l.registers.items ≡ replicate l._i null_registers;
  room : (vec_len l.registers ≡ l._i) × (l.n ≤ vec_capacity l.registers);
}
