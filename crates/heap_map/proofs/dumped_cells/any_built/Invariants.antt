use Rattle.std.proofs.Common.{◌≡◌, ℕ, ◌+◌, ◌<◌, ◌≤◌, None, slice_index_or}
use Rattle.heap_map.proofs.dumped_cells.any_built.Given as goal

-- none of the pages so far was built
abbrev pub invariant-loop-p : goal.invariant-loop-p
invariant-loop-p l = (q : ℕ) → l.begin ≤ q → q < l.p → slice_index_or l.dump.pages (l.first + q) None ≡ None
