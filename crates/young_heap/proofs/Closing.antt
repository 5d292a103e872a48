-- The premise of the next young collection, after one and its promotion.
use Rattle.std.proofs.Common.{◌≡◌, ℕ, ◌+◌, ◌<◌, ◌≤◌, true, false, List, [], ◌++◌, length, drop, sym, ap, subst, ◌∙◌, arith, length-append}
use Rattle.std.proofs.lemmas.List.{get_or_append_left}
use Rattle.heap_layout.specs.declared.edition.Edition.{Edition}
use Rattle.heap_layout.specs.Bits.{bit}
use Rattle.heap_layout.specs.Header.{header_of, refs_of, weak_of, size_of}
use Rattle.heap_layout.specs.Heap.{Heap, header_at}
use Rattle.stopped_heap.specs.Collecting.{IsCollected}
use Rattle.rest_slide.specs.Settled.{collected, places}
use Rattle.rest_marks.specs.Surveys.{marks_of}
use Rattle.rest_slide.proofs.Settling.{settled-all}
use Rattle.young_heap.specs.Rows.{IsInRow}
use Rattle.young_heap.specs.Young.{is_below_led, AreKeptBelow, AreOld, AreRemembered}
use Rattle.young_heap.proofs.Next.{all-old, none-remembered}
use Rattle.young_heap.proofs.Promoted.{next-is}

-- ---- with more words behind

module _ (edition : Edition) (words rest starts : List ℕ) (are : AreOld edition words starts (length words)) where
  header-same : (i : ℕ) → i < length words → header_at edition (words ++ rest) i ≡ header_at edition words i
  header-same i lt = ap (header_of edition) (get_or_append_left words rest 0 i lt)

  pub longer-old : AreOld edition (words ++ rest) starts (length words)
  longer-old =
      let long = length-append words rest in
      record {
        within = omega (arith, long);
        placed = λ i low set.
            let placed = are.placed i low set in
            let sized = ap size_of (header-same i low) in
            record { within = omega (arith, placed.within, sized, long); short = omega (arith, placed.short, sized) };
        inside = λ i low set. (let inside = are.inside i low set in let sized = ap size_of (header-same i low) in omega (arith, inside, sized));
        apart = λ i j one two order low.
            let apart = are.apart i j one two order low in
            let sized = ap size_of (header-same i (omega (arith, order, low))) in
            omega (arith, apart, sized);
        row = λ j low.
            let at = are.row j low in
            let sized = ap size_of (header-same at.0 (omega (arith, at.2.0, low))) in
            (at.0, at.1, (at.2.0, omega (arith, at.2.1, sized)));
      }

  pub longer-remembered : AreRemembered edition words starts (length words) [] [] → AreRemembered edition (words ++ rest) starts (length words) [] []
  longer-remembered remembered = record {
    clean = λ i f low set from to none.
        let inside = are.inside i low set in
        let refs = ap refs_of (header-same i low) in
        let word = get_or_append_left words rest 0 (i + f) (omega (arith, inside, to, refs)) in
        ap (is_below_led edition starts (length words)) word ∙ remembered.clean i f low set from (omega (arith, to, refs)) none;
    weak = λ i f low set from to none.
        let inside = are.inside i low set in
        let refs = ap refs_of (header-same i low) in
        let weak = ap weak_of (header-same i low) in
        let word = get_or_append_left words rest 0 (i + f) (omega (arith, inside, to, refs, weak)) in
        ap (is_below_led edition starts (length words)) word ∙ remembered.weak i f low set (omega (arith, from, refs)) (omega (arith, to, refs, weak)) none;
    fields_are = λ j there. absurd (let no : false ≡ true = there in cc);
    weaks_are = λ j there. absurd (let no : false ≡ true = there in cc);
  }

-- ---- after a young collection

module _ (edition : Edition) (words roots heads next : List ℕ) (old total : ℕ) (new_roots after : List ℕ)
    (is : IsCollected (record { edition = edition; words = words; marks = marks_of heads; roots = roots }) total new_roots words after)
    (old_are : AreOld edition words heads old) (kept : AreKeptBelow old heads next)
    (starts : (j : ℕ) → old ≤ j → bit next j ≡ true → IsInRow edition after total old j) (all : (j : ℕ) → IsInRow edition after total old j → bit next j ≡ true) where
  abbrev heap : Heap
  heap = record { edition = edition; words = words; marks = marks_of heads; roots = roots }

  abbrev left : List ℕ
  left = (collected heap).words

  long : total ≡ length left
  long = is.live ∙ sym (settled-all heap is.sound)

  pub same : marks_of next ≡ places heap
  same = next-is edition words roots heads next old after is.sound old_are kept total is.live
      (λ i lt. ap (λ (ws : List ℕ). header_at edition ws i) is.words ∙ ap (header_of edition) (get_or_append_left left (drop total words) 0 i (omega (arith, lt, long))))
      starts all

  pub next-old : AreOld edition after next total
  next-old =
      let row = longer-old edition left (drop total words) next (all-old heap is.sound next same) in
      subst (λ (n : ℕ). AreOld edition after next n) (sym long) (subst (λ (ws : List ℕ). AreOld edition ws next (length left)) (sym is.words) row)

  pub next-clean : AreRemembered edition after next total [] []
  next-clean =
      let clean = longer-remembered edition left (drop total words) next (all-old heap is.sound next same) (none-remembered heap is.sound next same) in
      subst (λ (n : ℕ). AreRemembered edition after next n [] []) (sym long) (subst (λ (ws : List ℕ). AreRemembered edition ws next (length left) [] []) (sym is.words) clean)
