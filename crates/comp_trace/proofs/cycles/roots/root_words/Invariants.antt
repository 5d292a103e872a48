use Rattle.std.proofs.Common.{◌≡◌, ◌≤◌, ℕ, List, length, map, take, vec_capacity}
use Rattle.comp_trace.specs.Replays.{Hold}
use Rattle.comp_trace.specs.RootsNamed.{word_named}
use Rattle.comp_trace.proofs.cycles.roots.root_words.Given as goal

-- the words of the roots before the loop's index
abbrev pub invariant-loop-root : goal.invariant-loop-root
invariant-loop-root l = record {
  words : (now : ℕ → List ℕ) → Hold (length l.registers) l.registers now → l.words.items ≡ map (word_named now) (take l.root-index l.roots);
  count : length l.words.items ≡ l.root-index;
  room : length l.roots ≤ vec_capacity l.words;
}
