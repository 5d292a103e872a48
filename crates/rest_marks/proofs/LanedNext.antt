-- One object more at which a lane looked.
use Rattle.std.proofs.Common.{◌≡◌, ℕ, ◌+◌, ◌<◌, ◌≤◌, true, false, List, length, get_or, take, drop, inl, inr, refl, sym, subst, ◌∙◌, arith}
use Rattle.std.proofs.lemmas.Bool.{cases_lt, both_ways}
use Rattle.heap_layout.specs.declared.edition.Edition.{Edition}
use Rattle.heap_layout.specs.Bits.{bit}
use Rattle.heap_layout.specs.Header.{header_of, refs_of, weak_of, size_of}
use Rattle.heap_layout.specs.Heap.{header_at, object_at}
use Rattle.heap_layout.specs.Limits.{most_object_words}
use Rattle.mark_tables.proofs.Runs.{IsRunSet}
use Rattle.rest_marks.specs.Looks.{IsAt, AreLookedAt}
use Rattle.rest_marks.specs.Marks.{AllKept}
use Rattle.rest_marks.specs.Meeting.{AllLead, IsDone}
use Rattle.rest_marks.specs.Reached.{IsWordOf}
use Rattle.rest_marks.proofs.Laned.{kept-word}
use Rattle.rest_marks.proofs.LookedAt.{same-head, same-part}

-- What was done with the object at index i, whose header word is w, and whose words were handed in.
pub record IsLaneStep (e : Edition) (count : ℕ) (run old_bits bits known : List ℕ) (i w : ℕ) : Type 0 where
  pub within : i + size_of (header_of e w) ≤ count
  pub short : size_of (header_of e w) ≤ most_object_words e
  pub long : 1 + refs_of (header_of e w) + weak_of (header_of e w) ≤ length run
  pub runs : IsRunSet i (size_of (header_of e w)) old_bits bits
  pub free : (j : ℕ) → i ≤ j → j < i + size_of (header_of e w) → bit old_bits j ≡ false
  pub kept : AllKept e known (take (refs_of (header_of e w)) (drop 1 run))
  pub leads : AllLead e count (take (refs_of (header_of e w)) (drop 1 run))
  pub weak : AllLead e count (take (weak_of (header_of e w)) (drop (1 + refs_of (header_of e w)) run))

module _ (e : Edition) (count : ℕ) (words run old new old_known known old_bits bits : List ℕ) (next : ℕ) (counted : length words ≡ count) (inside : next < length old)
    (at : IsAt words (get_or old next 0) run) (stay : (k : ℕ) → k < length old → (k < length new) × (get_or new k 0 ≡ get_or old k 0))
    (more : (i : ℕ) → bit old_known i ≡ true → bit known i ≡ true)
    (step : IsLaneStep e count run old_bits bits known (get_or old next 0) (get_or words (get_or old next 0) 0))
    (are : AreLookedAt e words old next old_known old_bits) where
  stays : (k : ℕ) → k ≤ next → get_or new k 0 ≡ get_or old k 0
  stays k le = (stay k (omega (arith, le, inside))).1

  set-still : (j : ℕ) → bit old_bits j ≡ true → bit bits j ≡ true
  set-still j set = elim (cases_lt j (get_or old next 0)) [
    | inl low ↦ step.runs.below j low ∙ set
    | inr above ↦ elim (cases_lt j ((get_or old next 0) + size_of (header_at e words (get_or old next 0)))) [
      | inl in_it ↦ step.runs.inside j above in_it
      | inr past ↦ step.runs.above j past ∙ set
    ]
  ]

  refs : take (refs_of (header_at e words (get_or old next 0))) (drop 1 run) ≡ (object_at e words (get_or old next 0)).references
  refs = same-part words run (get_or old next 0) 1 (refs_of (header_at e words (get_or old next 0))) ((get_or old next 0) + 1) at refl (omega (arith, step.long)) (omega (arith, step.within, counted))

  weak : take (weak_of (header_at e words (get_or old next 0))) (drop (1 + refs_of (header_at e words (get_or old next 0))) run) ≡ (object_at e words (get_or old next 0)).weak
  weak = same-part words run (get_or old next 0) (1 + refs_of (header_at e words (get_or old next 0))) (weak_of (header_at e words (get_or old next 0))) ((get_or old next 0) + 1 + refs_of (header_at e words (get_or old next 0))) at (omega arith) (omega (arith, step.long)) (omega (arith, step.within, counted))

  this : IsDone e words bits (get_or old next 0)
  this = record {
    placed = record { within = omega (arith, step.within, counted); short = step.short };
    run = λ j of. step.runs.inside j of.0 of.1;
    references = subst (λ (n : ℕ). AllLead e n (object_at e words (get_or old next 0)).references) (sym counted) (subst (AllLead e count) refs step.leads);
    weak = subst (λ (n : ℕ). AllLead e n (object_at e words (get_or old next 0)).weak) (sym counted) (subst (AllLead e count) weak step.weak);
  }

  -- a word of an object that was looked at before
  before-only : (j : ℕ) → bit old_bits j ≡ true → (k : ℕ) × (k < next + 1) × IsWordOf e words (get_or new k 0) j
  before-only j set =
      let place = are.only j set in
      (place.0, omega (arith, place.1), subst (λ (n : ℕ). IsWordOf e words n j) (sym (stays place.0 (omega (arith, place.1)))) place.2)

  apart-before : (k l n : ℕ) → k < l → l < next + 1 → IsWordOf e words (get_or old k 0) n → IsWordOf e words (get_or old l 0) n → ⊥
  apart-before k l n order lt one two = elim (cases_lt l next) [
    | inl earlier ↦ are.apart k l n order earlier one two
    | inr last ↦
        let here : l ≡ next = omega (arith, lt, last) in
        let mine : IsWordOf e words (get_or old next 0) n = subst (λ (m : ℕ). IsWordOf e words (get_or old m 0) n) here two in
        both_ways (bit old_bits n) (step.free n mine.0 mine.1) ((are.done k (omega (arith, order, lt))).run n one)
  ]

  step-known : AreLookedAt e words new (next + 1) known bits
  step-known = record {
    done = λ k lt. subst (IsDone e words bits) (sym (stays k (omega (arith, lt)))) (elim (cases_lt k next) [
      | inl earlier ↦
          let before = are.done k earlier in
          record {
            placed = before.placed;
            run = λ j of. set-still j (before.run j of);
            references = before.references;
            weak = before.weak;
          }
      | inr last ↦ (let here : next ≡ k = omega (arith, lt, last) in subst (λ (m : ℕ). IsDone e words bits (get_or old m 0)) here this)
    ]);
    only = λ j set. elim (cases_lt j (get_or old next 0)) [
      | inl low ↦ before-only j (sym (step.runs.below j low) ∙ set)
      | inr above ↦ elim (cases_lt j ((get_or old next 0) + size_of (header_at e words (get_or old next 0)))) [
        | inl in_it ↦ (next, omega arith, subst (λ (n : ℕ). IsWordOf e words n j) (sym (stays next (omega arith))) (above, in_it))
        | inr past ↦ before-only j (sym (step.runs.above j past) ∙ set)
      ]
    ];
    apart = λ k l n order lt one two.
        apart-before k l n order lt (subst (λ (m : ℕ). IsWordOf e words m n) (stays k (omega (arith, order, lt))) one)
        (subst (λ (m : ℕ). IsWordOf e words m n) (stays l (omega (arith, lt))) two);
    closed = λ k lt. subst (λ (m : ℕ). AllKept e known (object_at e words m).references) (sym (stays k (omega (arith, lt)))) (elim (cases_lt k next) [
      | inl earlier ↦ λ f below. kept-word e old_known known _ more (are.closed k earlier f below)
      | inr last ↦
          let here : next ≡ k = omega (arith, lt, last) in
          subst (λ (m : ℕ). AllKept e known (object_at e words (get_or old m 0)).references) here (subst (AllKept e known) refs step.kept)
    ]);
  }

pub laned-next : (e : Edition) (count : ℕ) (words run old new old_known known old_bits bits : List ℕ) (next i : ℕ) → length words ≡ count → next < length old → get_or old next 0 ≡ i
    → IsAt words i run → 0 < length run → ((k : ℕ) → k < length old → (k < length new) × (get_or new k 0 ≡ get_or old k 0))
    → ((j : ℕ) → bit old_known j ≡ true → bit known j ≡ true) → IsLaneStep e count run old_bits bits known i (get_or run 0 0)
    → AreLookedAt e words old next old_known old_bits → AreLookedAt e words new (next + 1) known bits
laned-next e count words run old new old_known known old_bits bits next i counted inside here at some stay more step are =
    let by_word = subst (IsLaneStep e count run old_bits bits known i) (sym (same-head words run i at some)) step in
    let by_place = subst (λ (n : ℕ). IsLaneStep e count run old_bits bits known n (get_or words n 0)) (sym here) by_word in
    step-known e count words run old new old_known known old_bits bits next counted inside (subst (λ (n : ℕ). IsAt words n run) (sym here) at) stay more by_place are
