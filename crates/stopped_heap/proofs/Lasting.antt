-- What several threads marked makes a survey.
use Rattle.std.proofs.Common.{◌≡◌, ℕ, ◌*◌, ◌≤◌, true, List, length}
use Rattle.std.specs.List.{range_with_len}
use Rattle.std.proofs.lemmas.List.Elements.{filter_passes, All-contains}
use Rattle.heap_layout.specs.declared.edition.Edition.{Edition}
use Rattle.heap_layout.specs.Bits.{bit}
use Rattle.heap_layout.specs.Heap.{live}
use Rattle.heap_layout.specs.Limits.{most_words, most_roots}
use Rattle.mark_tables.specs.MarkBitmap.{set_bits}
use Rattle.mark_tables.specs.LiveWords.{live_indices}
use Rattle.reachability.proofs.Rising.{contains-had}
use Rattle.rest_marks.specs.Reached.{AreReached, IsSound}
use Rattle.rest_marks.specs.Rounds.{AreAllMarked}
use Rattle.rest_marks.specs.Surveys.{marks_of, told}
use Rattle.stopped_heap.proofs.Collected.{reached-marked}
use Rattle.rest_marks.proofs.Lent as lent
use Rattle.rest_marks.proofs.Surveying.{marks-rising}

module _ (edition : Edition) (words roots heads bits : List ℕ) (few : length words ≤ most_words edition) (few_roots : length roots ≤ most_roots edition)
    (are : AreAllMarked edition words roots heads bits) where
  pub all-sound : IsSound (record { edition = edition; words = words; marks = marks_of heads; roots = roots })
  all-sound = lent.lent-sound edition words roots heads bits few few_roots are.led are.kept are.apart

  -- the objects that were reached are all of them: the marked objects lead to marked objects alone
  pub all-reached : AreReached edition words roots (marks_of heads)
  all-reached = record {
    rising = marks-rising heads;
    reached = λ i there.
        are.reached i (All-contains (λ (x : ℕ). bit heads x ≡ true) (marks_of heads) i (filter_passes (bit heads) (range_with_len 0 (64 * length heads))) there);
    all = λ i reaches.
        contains-had (marks_of heads) i
        (reached-marked (record { edition = edition; words = words; marks = marks_of heads; roots = roots }) all-sound.few_words all-sound.roots all-sound.references i reaches);
  }

  pub all-told : IsSound (told edition words heads)
  all-told = lent.told-sound edition words roots heads bits few few_roots are.led are.kept are.apart

  pub all-indices : length words ≤ 64 * length bits → set_bits bits ≡ live_indices (live (told edition words heads))
  all-indices room = lent.told-indices edition words roots heads bits few few_roots are.led are.kept are.apart are.run are.only room
