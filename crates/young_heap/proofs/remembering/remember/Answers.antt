use Rattle.std.proofs.Common.{◌≡◌, ℕ, ◌+◌, ◌/◌, ◌%◌, ◌<◌, ◌≤◌, ◌==◌, not, false, List, get_or, inl, inr, refl, ap, ◌∙◌, arith}
use Rattle.std.proofs.lemmas.Bool.{cases_lt}
use Rattle.heap_layout.specs.Header.{refs_of}
use Rattle.young_heap.specs.Cards.{header_word_of, is_dirty, last_weak_of}
use Rattle.young_heap.proofs.Gathering.{found-none, found-skip, gathered-none, gathered-skip}
use Rattle.young_heap.proofs.remembering.remember.Goals as goal

-- the words of a clean card are clean
clean-card : (cards : List ℕ) (first j : ℕ) → first % 64 ≡ 0 → first ≤ j → j < first + 64 → get_or cards (first / 64) 0 ≡ 0
    → is_dirty cards j ≡ false
clean-card cards first j whole from to clean =
    let same : j / 64 ≡ first / 64 = omega (arith, whole, from, to) in
    ap (λ (n : ℕ). not (get_or cards n 0 == 0)) same ∙ ap (λ (n : ℕ). not (n == 0)) clean

pub loop-first-init : goal.loop-first-init
loop-first-init c =
    let e = c.args.edition in
    let words = c.args.words.now in
    let starts = c.args.starts.now in
    let asked = is_dirty c.args.cards.now in
    let old = c.args.old in
    record {
      found = rw c.clear.ensures.items (found-none e words starts old asked);
      found_weak = rw c.clear-2.ensures.items (found-none e words starts old asked);
      gathered = λ row. rw c.clear.ensures.items (gathered-none e words starts old asked header_word_of refs_of);
      gathered_weak = λ row. rw c.clear-2.ensures.items (gathered-none e words starts old asked refs_of last_weak_of);
      capacity = omega (arith, c.clear.ensures.capacity);
      weak_capacity = omega (arith, c.clear-2.ensures.capacity);
      within = omega arith;
      card = inl refl;
    }

pub loop-first-preserved : goal.loop-first-preserved
loop-first-preserved c =
    let e = c.args.edition in
    let words = c.args.words.now in
    let starts = c.args.starts.now in
    let cards = c.args.cards.now in
    let asked = is_dirty cards in
    let old = c.args.old in
    let first = c.loop-first.first in
    let fields = c.loop-first.fields.items in
    let weaks = c.loop-first.weaks.items in
    let is = c.loop-first.invariant in
    let end = c.min-end.ensures in
    let lt = c.loop-first-test.true in
    let whole : first % 64 ≡ 0 = elim is.card [
      | inl none ↦ none
      | inr last ↦ absurd (omega (arith, last, lt))
    ] in
    let more : first ≤ c.min-end.result = omega (arith, end, lt) in
    let clean : (j : ℕ) → first ≤ j → j < c.min-end.result → asked j ≡ false =
    λ j from to. clean-card cards first j whole from (omega (arith, to, end)) (omega (arith, c.if-cards-first-ne0.false)) in
    record {
      found = found-skip e words starts old asked first c.min-end.result fields is.found more;
      found_weak = found-skip e words starts old asked first c.min-end.result weaks is.found_weak more;
      gathered = λ row. gathered-skip e words starts old asked header_word_of refs_of first c.min-end.result fields (is.gathered row) more clean;
      gathered_weak = λ row. gathered-skip e words starts old asked refs_of last_weak_of first c.min-end.result weaks (is.gathered_weak row) more clean;
      capacity = is.capacity;
      weak_capacity = is.weak_capacity;
      within = omega (arith, end);
      card = elim (cases_lt old (first + 64)) [
        | inl past ↦ inr (omega (arith, end, past))
        | inr more ↦ inl (omega (arith, end, more, whole))
      ];
    }
