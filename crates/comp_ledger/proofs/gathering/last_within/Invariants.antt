use Rattle.std.proofs.Common.{◌≡◌, ◌+◌, ◌≤◌, take, sum}
use Rattle.comp_ledger.specs.Shares.{total_posted}
use Rattle.comp_ledger.proofs.gathering.last_within.Given as goal

abbrev pub invariant-loop-share : goal.invariant-loop-share
invariant-loop-share g l = l.left + total_posted (take l.share-index l.shares) ≡ l.room

abbrev pub invariant-loop-words : goal.invariant-loop-words
invariant-loop-words g l = record {
  left : l.left + total_posted l.shares ≡ l.room;
  sum : l.sum ≡ sum (take l.words-index l.last);
  within : l.sum ≤ l.left;
}
