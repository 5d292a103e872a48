-- What was surveyed and slid is the collected heap.
use Rattle.std.proofs.Common.{◌≡◌, ℕ, ◌<◌, List, ◌++◌, drop, map, ap, subst, ◌∙◌}
use Rattle.heap_layout.specs.declared.edition.Edition.{Edition}
use Rattle.heap_layout.specs.Heap.{Heap, live}
use Rattle.page_plan.specs.Sliding.{live_words}
use Rattle.stopped_heap.specs.Collecting.{IsCollected, HasCollected, RefusesCollection}
use Rattle.rest_marks.specs.Reached.{AreReached, IsSound}
use Rattle.rest_slide.specs.Settled.{settled_word, settled_words}
use Rattle.rest_marks.specs.Surveys.{heap_of, with_roots, Surveyed}
use Rattle.rest_marks.specs.declared.fault.CollectFault.TheVariants.{NoRoom}

module _ (survey : Surveyed) (edition : Edition) (words roots : List ℕ) (same_edition : survey.edition ≡ edition) (same_words : survey.words ≡ words)
    (reached : AreReached edition words roots survey.marks) (sound : IsSound (with_roots survey roots)) where
  -- the heap that was surveyed is the one of this edition and with these words
  heap-is : with_roots survey roots ≡ record { edition = edition; words = words; marks = survey.marks; roots = roots }
  heap-is =
      ap (λ (e : Edition). record { edition = e; words = survey.words; marks = survey.marks; roots = roots }) same_edition
      ∙ ap (λ (ws : List ℕ). record { edition = edition; words = ws; marks = survey.marks; roots = roots }) same_words

  -- it is refused if its live words do not fit
  pub no-room : (count room : ℕ) → count ≡ live_words (live (heap_of survey)) → room < count → RefusesCollection edition words roots room (NoRoom count)
  no-room count room counted less =
      (survey.marks, reached, subst IsSound heap-is sound, counted ∙ ap (λ (h : Heap). live_words (live h)) heap-is, less)

  -- otherwise it is collected
  pub is-collected : (count : ℕ) (part before new_roots : List ℕ) → count ≡ live_words (live (heap_of survey)) → part ≡ settled_words (live (heap_of survey))
      → new_roots ≡ map (settled_word survey.edition (live (heap_of survey))) roots → HasCollected edition words roots count new_roots before (part ++ drop count before)
  is-collected count part before new_roots counted filled forwarded =
      let is : IsCollected (record { edition = edition; words = words; marks = survey.marks; roots = roots }) count new_roots before (part ++ drop count before) = record {
        sound = subst IsSound heap-is sound;
        live = counted ∙ ap (λ (h : Heap). live_words (live h)) heap-is;
        words = ap (λ (xs : List ℕ). xs ++ drop count before) (filled ∙ ap (λ (h : Heap). settled_words (live h)) heap-is);
        roots_are = forwarded ∙ ap (λ (h : Heap). map (settled_word h.edition (live h)) roots) heap-is;
      } in
      (survey.marks, reached, is)
