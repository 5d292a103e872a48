use Rattle.std.proofs.Common.{ℕ, ◌≡◌, ◌^◌, ◌<◌, All, length}
use Rattle.std.specs.List.{flat_map}
use Rattle.std.specs.Io.KnownBytes.{Consumes}
use Rattle.heap_layout.specs.Counted.{inner_of, failures_of}
use Rattle.comp_dump.specs.DumpEncoding.{eight_bytes}
use Rattle.comp_dump.proofs.reading.read_list.Given as goal

abbrev pub invariant-loop : goal.invariant-loop
invariant-loop g l = record {
  read : Consumes (g.R.Read.remaining (inner_of l.fn.r)) (g.R.Read.remaining (inner_of l.r)) (flat_map eight_bytes l.list.items);
  long : length l.list.items ≡ l.counter;
  stored : All (λ (n : ℕ). n < 2 ^ 64) l.list.items;
  none_failed : failures_of l.r ≡ failures_of l.fn.r;
}
