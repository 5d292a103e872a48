use Rattle.std.proofs.Common.{◌≡◌, ◌≤◌, None, replicate, vec_capacity, vec_len}
use Rattle.cell_steps.proofs.steps.opening.vacant_slots.Given as goal

abbrev pub invariant-loop : goal.invariant-loop
invariant-loop l = record {
  room : l.count ≤ vec_capacity l.slots;
  long : vec_len l.slots ≡ l.counter;
  made : l.slots.items ≡ replicate l.counter None;
}
