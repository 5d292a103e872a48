-- What two collections of the same words and roots leave.
use Rattle.std.proofs.Common.{◌≡◌, ℕ, ◌≤◌, List, ◌++◌, length, take, drop, refl, sym, ap, ◌∙◌, arith}
use Rattle.std.proofs.lemmas.List.{take_all, take-append-le}
use Rattle.heap_layout.specs.declared.edition.Edition.{Edition}
use Rattle.heap_layout.specs.Heap.{Heap, live}
use Rattle.page_plan.specs.Sliding.{live_words}
use Rattle.stopped_heap.specs.Collecting.{IsCollected, HasCollected, RefusesCollection}
use Rattle.stopped_heap.specs.InPlace.{HaveLeftTheSame}
use Rattle.rest_marks.specs.Reached.{IsFaultOf}
use Rattle.rest_slide.specs.Settled.{collected, settled_words}
use Rattle.rest_marks.specs.declared.fault.CollectFault.{CollectFault}
use Rattle.rest_marks.specs.declared.fault.CollectFault.TheVariants.{Survey, NoRoom}
use Rattle.rest_marks.specs.declared.fault.SurveyFault.{SurveyFault}
use Rattle.rest_marks.specs.declared.fault.SurveyFault.TheVariants.{OutOfMemory}
use Rattle.rest_marks.proofs.BitsBelow.{live_fit}
use Rattle.stopped_heap.proofs.Faultless.{faultless}
use Rattle.stopped_heap.proofs.Once.{once}
use Rattle.rest_slide.proofs.Settling.{settled-all}

-- the live words are the first ones
first-words : (heap : Heap) (count : ℕ) (roots before after : List ℕ) → IsCollected heap count roots before after → take count after ≡ settled_words (live heap)
first-words heap count roots before after is =
    let all = settled_words (live heap) in
    let many = settled-all heap is.sound in
    ap (take count) is.words
    ∙ take-append-le count all (drop count before) (omega (arith, is.live, many))
    ∙ take_all count all (omega (arith, is.live, many))

module _ (edition : Edition) (words roots : List ℕ) where
  abbrev heap : List ℕ → Heap
  heap marks = record { edition = edition; words = words; marks = marks; roots = roots }

  pub left-the-same : (count other : ℕ) (new_roots other_roots before other_before after other_after : List ℕ)
      → HasCollected edition words roots count new_roots before after → HasCollected edition words roots other other_roots other_before other_after
      → HaveLeftTheSame count other new_roots other_roots before other_before after other_after
  left-the-same count other new_roots other_roots before other_before after other_after one two =
      let marks = once edition words roots one.0 two.0 one.1 two.1 in
      let is = one.2 in
      let other_is = two.2 in
      let many : count ≡ other = is.live ∙ ap (λ (ms : List ℕ). live_words (live (heap ms))) marks ∙ sym other_is.live in
      record {
        live = many;
        roots_are = is.roots_are ∙ ap (λ (ms : List ℕ). (collected (heap ms)).roots) marks ∙ sym other_is.roots_are;
        words =
            first-words (heap one.0) count new_roots before after is
            ∙ ap (λ (ms : List ℕ). settled_words (live (heap ms))) marks
            ∙ sym (first-words (heap two.0) other other_roots other_before other_after other_is);
        whole = λ same.
            is.words
            ∙ ap (λ (ms : List ℕ). (collected (heap ms)).words ++ drop count before) marks
            ∙ ap (λ (n : ℕ). (collected (heap two.0)).words ++ drop n before) many
            ∙ ap (λ (xs : List ℕ). (collected (heap two.0)).words ++ drop other xs) same
            ∙ sym other_is.words;
      }

  -- a heap that is collected has no fault but that memory may run out
  pub collected-faultless : (count : ℕ) (new_roots before after : List ℕ) (fault : SurveyFault) → HasCollected edition words roots count new_roots before after
      → IsFaultOf edition words roots fault → fault ≡ OutOfMemory
  collected-faultless count new_roots before after fault is there = faultless (heap is.0) is.2.sound is.1 fault there

  -- where there are as many words as before the live ones have room
  pub has-room : (room : ℕ) (fault : CollectFault) → length words ≤ room → RefusesCollection edition words roots room fault → (refused : SurveyFault) × (fault ≡ Survey refused)
  has-room room (Survey refused) long refuses = (refused, refl)
  has-room room (NoRoom count) long refuses = absurd (omega (arith, live_fit (heap refuses.0) refuses.2, refuses.3, refuses.4, long))
