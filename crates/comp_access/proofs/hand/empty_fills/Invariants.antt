use Rattle.std.proofs.Common.{◌≡◌, ℕ, ◌+◌, ◌-◌, ◌*◌, ◌<◌, ◌≤◌, length, get_or}
use Rattle.comp_access.proofs.hand.empty_fills.Given as goal

abbrev pub invariant-loop-page : goal.invariant-loop-page
invariant-loop-page l = record {
  page_is : l.page ≡ l.number + length l.fills.items * l.mutators;
  few : length l.fills.items ≤ l.fresh;
  below : length l.fills.items ≤ l.page;
  zero : (i : ℕ) → get_or l.fills.items i 0 ≡ 0;
  there : (i : ℕ) → i < length l.fills.items → l.number + i * l.mutators < l.fresh;
}

abbrev pub decreases-loop-page : goal.decreases-loop-page
decreases-loop-page l = l.fresh - l.page
