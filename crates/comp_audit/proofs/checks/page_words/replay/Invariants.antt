use Rattle.std.proofs.Common.{◌≡◌, drop}
use Rattle.comp_journal.specs.Journal.{replayed}
use Rattle.comp_audit.proofs.checks.page_words.replay.Given as goal

abbrev pub invariant-loop-entry : goal.invariant-loop-entry
invariant-loop-entry l = replayed l.words (drop l.entry-index l.journal) ≡ replayed l.fn.words l.journal
