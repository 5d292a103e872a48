use Rattle.std.proofs.Common.{◌≡◌, ◌≤◌, ◌*◌, length, vec_len, vec_capacity}
use Rattle.comp_cycles.specs.Finishes.{journals_of, pages_of}
use Rattle.comp_cycles.specs.Ends.{setup_in, AreMoved}
use Rattle.comp_cycles.proofs.moving.move_pages.Given as goal

-- the words of all pages before the loop's page are moved
abbrev pub invariant-loop-p : goal.invariant-loop-p
invariant-loop-p g l = record {
  moved : AreMoved (setup_in (g.B.Builder.heap l.builder) l.finished) (journals_of l.finished) (64 * l.p) l.words.items l.starts;
  len : vec_len l.words ≡ 64 * l.p;
  capacity : 64 * length (pages_of l.finished) ≤ vec_capacity l.words;
  bits : length l.starts ≡ length (pages_of l.finished);
}
