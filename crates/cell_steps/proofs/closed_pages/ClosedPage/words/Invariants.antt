use Rattle.std.proofs.Common.{◌≡◌, ℕ, ◌<◌, length, get_or}
use Rattle.comp_journal.specs.Journal.{replayed}
use Rattle.cell_steps.proofs.closed_pages.ClosedPage.words.Given as goal

-- the words so far are those that the journal makes of the base
abbrev pub invariant-loop-offset : goal.invariant-loop-offset
invariant-loop-offset l = (length l.words ≡ 64) × ((o : ℕ) → o < l.offset → get_or l.words o 0 ≡ get_or (replayed l.fn.self.page.base l.fn.self.page.journal) o 0)
