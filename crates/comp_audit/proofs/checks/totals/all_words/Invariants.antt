use Rattle.std.proofs.Common.{◌≡◌, ◌*◌, ◌^◌, ◌≤◌}
use Rattle.comp_history.specs.Merged.{entries_below}
use Rattle.comp_history.specs.MadeWords.{allocated}
use Rattle.comp_audit.specs.Checks.{journals_in}
use Rattle.comp_audit.proofs.checks.totals.all_words.Given as goal

abbrev pub invariant-loop-p : goal.invariant-loop-p
invariant-loop-p l = record {
  words : l.words ≡ allocated l.edition (entries_below (journals_in l.records) l.p);
  few : l.words ≤ 2 ^ 42 * l.p;
}
