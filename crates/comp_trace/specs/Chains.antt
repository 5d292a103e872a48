-- The next line of a mutator among the lines of all mutators.
use Rattle.std.specs.Prelude.{◌≡◌, ◌≢◌, ℕ, ◌+◌, ◌<◌, ◌≤◌, List, length, slice_index}
use mathlib.Core.Option.{some}
use lib.ListN.{get_elem?}
use Rattle.comp_trace.specs.Races.{numbered, own_lines}
use Rattle.comp_trace.specs.declared.text.line.Line.{Line}
use Rattle.comp_trace.specs.declared.races.chains.Chains.{Chains}

-- The first line of the mutator from index `start` on is at `position`. If there is none, `position` is the number of
-- lines.
pub record IsNextOwn (lines : List Line) (number start position : ℕ) : Type 0 where
  pub above : start ≤ position
  pub inside : position ≤ length lines
  pub others : (i : ℕ) (line : Line) → start ≤ i → i < position → get_elem? lines i ≡ some line → line.mutator ≢ number
  pub own : (line : Line) → get_elem? lines position ≡ some line → line.mutator ≡ number

-- The chains are those of the lines.
pub record AreChained (lines : List Line) (chains : Chains) : Type 0 where
  pub firsts : (number : ℕ) → number < 256 → IsNextOwn lines number 0 (slice_index chains.firsts number)
  pub counts : (number : ℕ) → number < 256 → slice_index chains.counts number ≡ length (own_lines number (numbered 1 lines))
  pub long : length chains.nexts.items ≡ length lines
  pub nexts : (i : ℕ) (line : Line) → get_elem? lines i ≡ some line → IsNextOwn lines line.mutator (i + 1) (slice_index chains.nexts.items i)
