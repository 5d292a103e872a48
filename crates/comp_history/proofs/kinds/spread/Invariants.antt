use Rattle.std.proofs.Common.{◌≡◌, ◌<◌, ◌≤◌, ℕ, length, None}
use Rattle.std.specs.Prelude.{slice_get, slice_index_or}
use Rattle.comp_history.proofs.kinds.spread.Given as goal

abbrev pub invariant-loop-offset : goal.invariant-loop-offset
invariant-loop-offset l = record {
  long : length l.all ≡ 64;
  told : (o : ℕ) → o < l.offset → slice_index_or l.all o None ≡ slice_get l.kinds o;
  rest : (o : ℕ) → l.offset ≤ o → slice_index_or l.all o None ≡ None;
}
