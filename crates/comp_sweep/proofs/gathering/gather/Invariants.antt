use Rattle.std.proofs.Common.{◌≡◌, ℕ, ◌<◌, [], length}
use mathlib.Core.Option.{some}
use lib.ListN.{get_elem?}
use Rattle.comp_sweep.specs.Queues.{put_in, standings, taken_in, Deque, Linked, Standing}
use Rattle.comp_sweep.proofs.gathering.gather.Given as goal

abbrev pub invariant-loop-k : goal.invariant-loop-k
invariant-loop-k l = record {
  count : length l.queues.items ≡ length l.initial.queues.items;
  linked : Linked (standings l.queues.items) [];
  put : (x : ℕ) → put_in x (standings l.queues.items) ≡ put_in x (standings l.initial.queues.items);
  taken : (x : ℕ) → taken_in x l.queues.items ≡ taken_in x l.initial.queues.items;
  none : (j : ℕ) (queue : Standing Deque) → j < l.k → get_elem? (standings l.queues.items) j ≡ some queue → queue.ways ≡ [];
}
