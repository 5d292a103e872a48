use Rattle.std.proofs.Common.{◌≡◌, ℕ, ◌+◌, ◌-◌, ◌*◌, ◌≤◌, List, vec_len, vec_capacity}
use Rattle.comp_history.specs.Locks.{Journals}
use Rattle.comp_history.specs.Setup.{Setup}
use Rattle.comp_cycles.specs.Ends.{AreMoved}
use Rattle.comp_cycles.specs.BlankPages.{IsBlank}
use Rattle.comp_cycles.proofs.moving.add_blank.Given as goal

-- so many words of the page are moved
abbrev pub invariant-loop-offset : goal.invariant-loop-offset
invariant-loop-offset l = record {
  moved : (u : Setup) (journals : Journals) (p : ℕ) (starts : List ℕ) → AreMoved u journals (64 * p) l.fn.words.items starts → IsBlank u journals p
      → AreMoved u journals (64 * p + l.offset) l.words.items starts;
  few : l.offset ≤ 64;
  len : vec_len l.words ≡ vec_len l.fn.words + l.offset;
  capacity : vec_capacity l.words ≡ vec_capacity l.fn.words;
}

abbrev pub decreases-loop-offset : goal.decreases-loop-offset
decreases-loop-offset l = 64 - l.offset
