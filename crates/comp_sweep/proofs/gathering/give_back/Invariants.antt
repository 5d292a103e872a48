use Rattle.std.proofs.Common.{◌≡◌, ℕ, ◌+◌, length, map}
use Rattle.comp_sweep.specs.Queues.{put_in, standings, taken_in, taken_on, way_name, Deque, Linked, Standing}
use Rattle.comp_sweep.proofs.gathering.give_back.Given as goal

abbrev pub invariant-loop-way : goal.invariant-loop-way
invariant-loop-way l = record {
  count : length l.queues.items ≡ length l.initial.queues.items;
  linked : Linked (standings l.queues.items) (map way_name l.way-iterator.rest.items);
  put : (x : ℕ) → put_in x (standings l.queues.items) ≡ put_in x (standings l.initial.queues.items);
  ways : map (λ (queue : Standing Deque). queue.ways) (standings l.queues.items) ≡ map (λ (queue : Standing Deque). queue.ways) (standings l.initial.queues.items);
  taken : (x : ℕ) → taken_in x l.queues.items + taken_on x l.way-iterator.rest.items ≡ taken_in x l.initial.queues.items + taken_on x l.fn.ways.items;
}
