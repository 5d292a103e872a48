use Rattle.std.proofs.Common.{◌≡◌, ◌+◌, ◌*◌, ◌^◌, ◌≤◌, drop}
use Rattle.comp_journal.specs.declared.entry.Entry.{Entry}
use Rattle.comp_history.specs.Lists.{total}
use Rattle.comp_history.specs.MadeWords.{words_by}
use Rattle.comp_audit.proofs.checks.totals.words_on.Given as goal

abbrev pub invariant-loop-entry : goal.invariant-loop-entry
invariant-loop-entry l = record {
  words : l.words + total (λ (e : Entry). words_by l.edition e.kind e.value) (drop l.entry-index l.journal) ≡ total (λ (e : Entry). words_by l.edition e.kind e.value) l.journal;
  few : l.words ≤ 2 ^ 32 * l.entry-index;
}
