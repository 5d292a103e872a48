-- The marks that were lent make a survey.
use Rattle.std.proofs.Common.{◌≡◌, ℕ, ◌+◌, ◌*◌, ◌<◌, ◌≤◌, Bool, true, List, length, get_or, sym, ap, subst, ◌∙◌, arith}
use Rattle.std.specs.List.{range_with_len}
use Rattle.std.proofs.lemmas.List.{get_or_default}
use Rattle.std.proofs.lemmas.List.Elements.{filter_passes}
use Rattle.heap_layout.specs.declared.edition.Edition.{Edition}
use Rattle.heap_layout.specs.Bits.{bit}
use Rattle.heap_layout.specs.Heap.{object_at, live, IsValue}
use Rattle.heap_layout.specs.Limits.{most_words, most_roots}
use Rattle.heap_layout.specs.Values.{or_immediate}
use Rattle.rest_marks.specs.Marks.{AllKept, IsKept}
use Rattle.rest_marks.specs.Meeting.{AreApart}
use Rattle.rest_marks.specs.Reached.{is_within, IsWordOf, IsSound}
use Rattle.rest_marks.specs.Surveys.{marks_of, told}
use Rattle.mark_tables.specs.MarkBitmap.{set_bits}
use Rattle.mark_tables.specs.LiveWords.{live_indices}
use Rattle.rest_marks.proofs.Heads.{head-number, heads-lead, mark-set}
use Rattle.rest_marks.proofs.Spans.{all-runs}
use Rattle.rest_marks.proofs.Surveying.{marks-rising}

module _ (edition : Edition) (words roots heads bits : List ℕ) (few : length words ≤ most_words edition) (few_roots : length roots ≤ most_roots edition)
    (kept_roots : AllKept edition heads roots)
    (kept : (i : ℕ) → bit heads i ≡ true → IsKept edition words heads i) (apart : AreApart edition words heads) where
  abbrev marks : List ℕ
  marks = marks_of heads

  set-at : (k d : ℕ) → k < length marks → bit heads (get_or marks k d) ≡ true
  set-at k d lt = filter_passes (bit heads) (range_with_len 0 (64 * length heads)) k d lt

  -- a word that was kept is an immediate, null, or the address of a marked object
  kept-value : (from : List ℕ) → AllKept edition heads from → (k d : ℕ) → k < length from → IsValue edition marks (get_or from k d)
  kept-value from all k d lt =
      subst (IsValue edition marks) (get_or_default from k 0 d lt)
      (ap (λ (test : ℕ → Bool). or_immediate edition test (get_or from k 0)) (sym (heads-lead heads)) ∙ all k lt)

  pub lent-sound : IsSound (record { edition = edition; words = words; marks = marks; roots = roots })
  lent-sound = record {
    few_words = few;
    few_roots = few_roots;
    placed = λ k d lt. (kept (get_or marks k d) (set-at k d lt)).placed;
    apart = λ k lt. apart (get_or marks k 0) (get_or marks (k + 1) 0) (mark-set heads k (omega (arith, lt))) (mark-set heads (k + 1) lt) (marks-rising heads k lt);
    roots = λ k d lt. kept-value roots kept_roots k d lt;
    references = λ k d lt f e inside.
        kept-value (object_at edition words (get_or marks k d)).references (kept (get_or marks k d) (set-at k d lt)).references f e inside;
    weak = λ k d lt f e inside.
        subst (λ (w : ℕ). is_within edition (length words) w ≡ true) (get_or_default (object_at edition words (get_or marks k d)).weak f 0 e inside)
        ((kept (get_or marks k d) (set-at k d lt)).weak f inside);
  }

  -- it is sound without its roots too
  pub told-sound : IsSound (told edition words heads)
  told-sound = record {
    few_words = few;
    few_roots = omega arith;
    placed = lent-sound.placed;
    apart = lent-sound.apart;
    roots = λ k d lt. absurd (omega (arith, lt));
    references = lent-sound.references;
    weak = lent-sound.weak;
  }

  pub told-indices : ((i j : ℕ) → bit heads i ≡ true → IsWordOf edition words i j → bit bits j ≡ true)
      → ((j : ℕ) → bit bits j ≡ true → (i : ℕ) × (bit heads i ≡ true) × IsWordOf edition words i j) → length words ≤ 64 * length bits
      → set_bits bits ≡ live_indices (live (told edition words heads))
  told-indices run only room =
      all-runs (told edition words heads) told-sound bits
      (λ k j lt of. run (get_or marks k 0) j (mark-set heads k lt) of)
      (λ j set.
      let at = only j set in
      let number = head-number heads at.0 at.1 in
      (number.0, number.1, subst (λ (i : ℕ). IsWordOf edition words i j) (sym number.2) at.2))
      room
