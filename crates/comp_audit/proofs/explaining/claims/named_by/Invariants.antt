use Rattle.std.proofs.Common.{◌≡◌, ℕ, ◌<◌, ◌≤◌, [], length, slice_index, slice_index_or}
use Rattle.comp_dump.specs.CellEnds.{lists as items_of}
use Rattle.comp_dump.specs.Lists.{times}
use Rattle.comp_audit.proofs.explaining.claims.named_by.Given as goal

-- how often the lists so far name the page
abbrev pub invariant-loop-number : goal.invariant-loop-number
invariant-loop-number l = record {
  long : length l.by ≡ 64;
  told : (k : ℕ) → k < l.number → slice_index l.by k ≡ times l.p (slice_index_or (items_of l.builds) k []);
  rest : (k : ℕ) → l.number ≤ k → slice_index l.by k ≡ 0;
}
