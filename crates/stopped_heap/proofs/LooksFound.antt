-- A marking that ended: what was found of the words in which its objects are as they must be.
use Rattle.std.proofs.Common.{◌≡◌, ℕ, ◌*◌, ◌<◌, ◌≤◌, true, List, [], length, get_or, refl, sym, ap, subst, ◌∙◌, arith}
use Rattle.std.specs.Prelude.{All}
use Rattle.heap_layout.specs.declared.edition.Edition.{Edition}
use Rattle.heap_layout.specs.Bits.{bit}
use Rattle.heap_layout.specs.Heap.{IsValue}
use Rattle.heap_layout.specs.Limits.{most_words, most_roots}
use Rattle.mark_tables.specs.MarkBitmap.{set_bits}
use Rattle.reachability.proofs.Queues.{place-of}
use Rattle.rest_marks.specs.Given.{heap_now}
use Rattle.rest_marks.specs.Looks.{AreLookedAt}
use Rattle.rest_marks.specs.Marks.{AllKept, IsKept}
use Rattle.rest_marks.specs.Meeting.{AreMet}
use Rattle.rest_marks.specs.Places.{found_in, Found, IsFoundOf}
use Rattle.rest_marks.specs.Reached.{IsWordOf}
use Rattle.rest_marks.specs.Surveys.{marks_of}
use Rattle.rest_marks.proofs.Lent.{told-sound, told-indices}
use Rattle.rest_marks.proofs.LookedAt.{spread-of}
use Rattle.rest_marks.proofs.Spread.{spread-only, spread-apart}

module _ (edition : Edition) (count : ℕ) (words met : List ℕ) (next : ℕ) (heads bits roots : List ℕ) (counted : length words ≡ count) (few : count ≤ most_words edition)
    (few_roots : length roots ≤ most_roots edition) (same : length heads ≡ length bits) (room : count ≤ 64 * length bits) (are_met : AreMet met heads) (within : next ≤ length met) (all : length met ≤ next)
    (are : AreLookedAt edition words met next heads bits) where
  kept : (i : ℕ) → bit heads i ≡ true → IsKept edition words heads i
  kept i set =
      let at = place-of met i (sym (are_met i) ∙ set) in
      let lt : at.0 < next = omega (arith, at.1, all) in
      let is = are.done at.0 lt in
      let here : IsKept edition words heads (get_or met at.0 0) = record { placed = is.placed; references = are.closed at.0 lt; weak = is.weak } in
      subst (IsKept edition words heads) at.2 here

  run : (i j : ℕ) → bit heads i ≡ true → IsWordOf edition words i j → bit bits j ≡ true
  run i j set of =
      let at = place-of met i (sym (are_met i) ∙ set) in
      (are.done at.0 (omega (arith, at.1, all))).run j (subst (λ (m : ℕ). IsWordOf edition words m j) (sym at.2) of)

  no_roots : AllKept edition heads []
  no_roots k lt = absurd (omega (arith, lt))

  pub looked-found : (place : ℕ) → All (IsValue edition (marks_of heads)) roots → IsFoundOf (found_in edition count heads bits place) (heap_now (found_in edition count heads bits place) words roots)
  looked-found place roots_lead =
      let few_words : length words ≤ most_words edition = omega (arith, few, counted) in
      let none : length {A = ℕ} [] ≤ most_roots edition = omega arith in
      let spread = spread-of edition words met next heads bits are_met same are in
      let apart = spread-apart edition words met next heads bits spread all in
      let sound = told-sound edition words [] heads bits few_words none no_roots kept apart in
      record {
        edition = refl;
        count = counted;
        marks = refl;
        indices = told-indices edition words [] heads bits few_words none no_roots kept apart run (spread-only edition words met next heads bits spread within) (omega (arith, counted, room));
        sound = record {
          few_words = few_words;
          few_roots = few_roots;
          placed = sound.placed;
          apart = sound.apart;
          roots = roots_lead;
          references = sound.references;
          weak = sound.weak;
        };
      }

-- what is found of bits
found-in-is : (found : Found) (edition : Edition) (count : ℕ) (heads bits : List ℕ) → found.edition ≡ edition → found.count ≡ count → found.marks ≡ marks_of heads → found.indices ≡ set_bits bits
    → found ≡ found_in edition count heads bits found.room
found-in-is found edition count heads bits e n ms is =
    ap (λ (x : Edition). record { edition = x; count = found.count; marks = found.marks; indices = found.indices; room = found.room }) e
    ∙ ap (λ (x : ℕ). record { edition = edition; count = x; marks = found.marks; indices = found.indices; room = found.room }) n
    ∙ ap (λ (xs : List ℕ). record { edition = edition; count = count; marks = xs; indices = found.indices; room = found.room }) ms
    ∙ ap (λ (xs : List ℕ). record { edition = edition; count = count; marks = marks_of heads; indices = xs; room = found.room }) is

pub looks-found : (found : Found) (edition : Edition) (count : ℕ) (words met : List ℕ) (next : ℕ) (heads bits roots : List ℕ)
    → found.edition ≡ edition → found.count ≡ count → found.marks ≡ marks_of heads → found.indices ≡ set_bits bits
    → length words ≡ count → count ≤ most_words edition → length roots ≤ most_roots edition → length heads ≡ length bits → count ≤ 64 * length bits
    → AreMet met heads → next ≤ length met → length met ≤ next → All (IsValue found.edition found.marks) roots → AreLookedAt edition words met next heads bits
    → IsFoundOf found (heap_now found words roots)
looks-found found edition count words met next heads bits roots e n ms is counted few few_roots same room are_met within all roots_lead are =
    let whole = found-in-is found edition count heads bits e n ms is in
    let lead = subst (λ (f : Found). All (IsValue f.edition f.marks) roots) whole roots_lead in
    subst (λ (f : Found). IsFoundOf f (heap_now f words roots)) (sym whole)
    (looked-found edition count words met next heads bits roots counted few few_roots same room are_met within all are found.room lead)
