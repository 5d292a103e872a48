-- What was found is what one thread finds.
use Rattle.std.proofs.Common.{◌≡◌, ℕ, ◌*◌, true, List, [], length, refl, sym, ap, subst, ◌∙◌}
use Rattle.std.proofs.lemmas.List.Elements.{filter_passes, All-contains}
use Rattle.std.specs.List.{range_with_len}
use Rattle.heap_layout.specs.declared.edition.Edition.{Edition}
use Rattle.heap_layout.specs.Bits.{bit}
use Rattle.heap_layout.specs.Heap.{live}
use Rattle.mark_tables.specs.LiveWords.{live_indices}
use Rattle.reachability.proofs.Rising.{contains-had}
use Rattle.rest_marks.specs.Reached.{AreReached, IsSound}
use Rattle.rest_marks.specs.Surveys.{Surveyed, heap_of, marks_of, with_roots}
use Rattle.rest_marks.specs.Places.{Found, IsFoundOf}
use Rattle.stopped_heap.proofs.Collected.{reached-marked}
use Rattle.stopped_heap.proofs.Once.{once}
use Rattle.rest_marks.proofs.Surveying.{marks-rising}
use Rattle.mark_job.specs.Asked.{Asked, IsMarkedOf, IsMetIn}

-- Objects that are reached, and whose roots and references lead to such objects alone, are all that are reached.
pub all-met : (asked : Asked) (heads : List ℕ) → ((i : ℕ) → bit heads i ≡ true → IsMetIn asked i)
    → IsSound (record { edition = asked.edition; words = asked.words; marks = marks_of heads; roots = asked.roots })
    → AreReached asked.edition asked.words asked.roots (marks_of heads)
all-met asked heads met sound = record {
  rising = marks-rising heads;
  reached = λ i there. met i (All-contains (λ (x : ℕ). bit heads x ≡ true) (marks_of heads) i (filter_passes (bit heads) (range_with_len 0 (64 * length heads))) there);
  all = λ i reaches. contains-had (marks_of heads) i (reached-marked (record { edition = asked.edition; words = asked.words; marks = marks_of heads; roots = asked.roots }) sound.few_words sound.roots sound.references i reaches);
}

-- the indices of the words of the marked objects
abbrev indices_in : Edition → List ℕ → List ℕ → List ℕ
indices_in edition words marks = live_indices (live (record { edition = edition; words = words; marks = marks; roots = [] }))

-- the heap of these words, marks and roots is sound
abbrev IsSoundOf : Edition → List ℕ → List ℕ → List ℕ → Type 0
IsSoundOf edition words marks roots = IsSound (record { edition = edition; words = words; marks = marks; roots = roots })

-- the same heap by what is asked for
pub sound-moved : (asked : Asked) (survey : Surveyed) (heads : List ℕ) → survey.edition ≡ asked.edition → survey.words ≡ asked.words → survey.marks ≡ marks_of heads
    → IsSound (with_roots survey asked.roots) → IsSoundOf asked.edition asked.words (marks_of heads) asked.roots
sound-moved asked survey heads edition words marks sound =
    subst (λ (ms : List ℕ). IsSoundOf asked.edition asked.words ms asked.roots) marks
    (subst (λ (ws : List ℕ). IsSoundOf asked.edition ws survey.marks asked.roots) words
    (subst (λ (e : Edition). IsSoundOf e survey.words survey.marks asked.roots) edition sound))

-- what a survey of the heap found
pub marked-of : (asked : Asked) (survey : Surveyed) (found : Found) → survey.edition ≡ asked.edition → survey.words ≡ asked.words
    → AreReached asked.edition asked.words asked.roots survey.marks → IsSound (with_roots survey asked.roots) → IsFoundOf found (heap_of survey) → IsMarkedOf asked found
marked-of asked survey found edition words reached sound places = record {
  reached = subst (AreReached asked.edition asked.words asked.roots) places.marks reached;
  places = record {
    edition = sym edition ∙ places.edition;
    count = ap (λ (ws : List ℕ). length ws) (sym words) ∙ places.count;
    marks = refl;
    indices = places.indices
        ∙ ap (λ (e : Edition). indices_in e survey.words survey.marks) edition
        ∙ ap (λ (ws : List ℕ). indices_in asked.edition ws survey.marks) words
        ∙ ap (indices_in asked.edition asked.words) places.marks;
    sound = subst (λ (ms : List ℕ). IsSoundOf asked.edition asked.words ms asked.roots) places.marks
        (subst (λ (ws : List ℕ). IsSoundOf asked.edition ws survey.marks asked.roots) words
        (subst (λ (e : Edition). IsSoundOf e survey.words survey.marks asked.roots) edition sound));
  };
}

-- there is one answer
pub one-found : (asked : Asked) (found other : Found) → IsMarkedOf asked found → IsMarkedOf asked other
    → (found.edition ≡ other.edition) × (found.count ≡ other.count) × (found.marks ≡ other.marks) × (found.indices ≡ other.indices)
one-found asked found other one two =
    let marks = once asked.edition asked.words asked.roots found.marks other.marks one.reached two.reached in (
      sym one.places.edition ∙ two.places.edition,
      sym one.places.count ∙ two.places.count,
      marks,
      one.places.indices ∙ ap (indices_in asked.edition asked.words) marks ∙ sym two.places.indices,
    )
