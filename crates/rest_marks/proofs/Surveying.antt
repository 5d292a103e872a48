-- What marking found makes a survey.
use Rattle.std.proofs.Common.{◌≡◌, ℕ, ◌+◌, ◌-◌, ◌*◌, ◌^◌, ◌<◌, ◌≤◌, ◌==◌, Bool, true, leb, List, length, get_or, inl, inr, Contains, sym, ap, subst, ◌∙◌, arith}
use Rattle.std.proofs.lemmas.Bool.{or_cases, or_left, or_right, and_parts, and_from, leb-true, ltb-true}
use Rattle.std.proofs.lemmas.List.{get_or_default}
use Rattle.std.proofs.lemmas.List.Elements.{filter_passes, All-contains}
use Rattle.std.proofs.lemmas.List.Kept.{IsStrictlyIncreasing-filter}
use Rattle.std.proofs.lemmas.List.FromFn.{length-range_with_len, get_or-range_with_len}
use Rattle.std.specs.List.{range_with_len}
use Rattle.std.specs.List.Sorted.{IsStrictlyIncreasing}
use Rattle.heap_layout.specs.declared.edition.Edition.{Edition}
use Rattle.heap_layout.specs.Bits.{bit}
use Rattle.heap_layout.specs.Heap.{object_at, live, from_address, IsValue}
use Rattle.heap_layout.specs.Limits.{most_words, most_roots}
use Rattle.heap_layout.specs.Values.{is_immediate}
use Rattle.heap_layout.proofs.Values.{value-immediate, value-target}
use Rattle.reachability.specs.Queue.{is_address}
use Rattle.reachability.proofs.Indices.{index-there}
use Rattle.reachability.proofs.Queues.{has-at}
use Rattle.reachability.proofs.Rising.{contains-had}
use Rattle.rest_marks.specs.Reached.{is_below, leads_within, is_within, IsWordOf, LeadInto, IsReachedFrom, by_root, by_reference, AreReached, IsSound}
use Rattle.rest_marks.specs.Meeting.{AllLead, IsDone, AreApart}
use Rattle.rest_marks.specs.Surveys.{marks_of, told}
use Rattle.mark_tables.specs.MarkBitmap.{set_bits}
use Rattle.mark_tables.specs.LiveWords.{live_indices}
use Rattle.rest_marks.proofs.Bounding.{bit-inside}
use Rattle.rest_marks.proofs.Heads.{head-number, heads-lead, mark-set}
use Rattle.rest_marks.proofs.Spans.{all-runs}

-- a range rises
range-rises : (n : ℕ) → IsStrictlyIncreasing (range_with_len 0 n)
range-rises n k within =
    let inside : k + 1 < n = omega (arith, length-range_with_len 0 n) in
    omega (arith, get_or-range_with_len 0 n k 0 (omega arith), get_or-range_with_len 0 n (k + 1) 0 inside)

-- the indices of set bits rise
pub marks-rising : (heads : List ℕ) → IsStrictlyIncreasing (marks_of heads)
marks-rising heads = IsStrictlyIncreasing-filter (bit heads) (range_with_len 0 (64 * length heads)) (range-rises (64 * length heads))

-- What marking found.
pub record IsMarkedBy (edition : Edition) (words roots heads bits : List ℕ) : Type 0 where
  pub few_words : length words ≤ most_words edition
  pub few_roots : length roots ≤ most_roots edition
  pub reached : (i : ℕ) → bit heads i ≡ true → IsReachedFrom edition words roots i
  pub all : (i : ℕ) → IsReachedFrom edition words roots i → bit heads i ≡ true
  pub done : (i : ℕ) → bit heads i ≡ true → IsDone edition words bits i
  pub only : (j : ℕ) → bit bits j ≡ true → (i : ℕ) × (bit heads i ≡ true) × IsWordOf edition words i j
  pub apart : AreApart edition words heads
  pub roots_lead : AllLead edition (length words) roots
  pub room : length words ≤ 64 * length bits

module _ (edition : Edition) (words roots heads bits : List ℕ) (is : IsMarkedBy edition words roots heads bits) where
  abbrev marks : List ℕ
  marks = marks_of heads

  pub are-reached : AreReached edition words roots marks
  are-reached = record {
    rising = marks-rising heads;
    reached = λ i there. is.reached i (All-contains (λ (x : ℕ). bit heads x ≡ true) marks i (filter_passes (bit heads) (range_with_len 0 (64 * length heads))) there);
    all = λ i reaches. index-there (bit heads) (64 * length heads) i (bit-inside heads i (is.all i reaches)) (is.all i reaches);
  }

  -- a word that leads to a word leads to a live object, if words lead to live ones
  lead-value : (from : List ℕ) (k d : ℕ) → AllLead edition (length words) from → k < length from → ((i : ℕ) → LeadInto words from i → bit heads i ≡ true) → IsValue edition marks (get_or from k d)
  lead-value from k d lead lt lives =
      let word = get_or from k 0 in
      let value : IsValue edition marks word = elim (or_cases (is_immediate edition word) (leads_within (length words) word) (lead k lt)) [
        | inl immediate ↦ value-immediate edition marks word immediate
        | inr within ↦ value-target edition marks word (ap (λ (test : ℕ → Bool). test word) (sym (heads-lead heads)) ∙
            elim (or_cases (word == 0) (is_address (is_below (length words)) word) within) [
              | inl null ↦ or_left (word == 0) (is_address (bit heads) word) null
              | inr address ↦
                  let i = word - 2 ^ 32 in
                  let parts = and_parts (leb (2 ^ 32) word) (is_below (length words) i) address in
                  let above = leb-true (2 ^ 32) word parts.0 in
                  let same : word ≡ from_address i = omega (arith, above) in
                  let to : LeadInto words from i = record { inside = ltb-true i (length words) parts.1; address = subst (Contains from) same (contains-had from word (has-at from k lt)) } in
                  or_right (word == 0) (is_address (bit heads) word) (and_from (leb (2 ^ 32) word) (bit heads i) parts.0 (lives i to))
            ])
      ] in
      subst (IsValue edition marks) (get_or_default from k 0 d lt) value

  pub sound-of : IsSound (record { edition = edition; words = words; marks = marks; roots = roots })
  sound-of = record {
    few_words = is.few_words;
    few_roots = is.few_roots;
    placed = λ k d lt. (is.done (get_or marks k d) (filter_passes (bit heads) (range_with_len 0 (64 * length heads)) k d lt)).placed;
    apart = λ k lt. is.apart (get_or marks k 0) (get_or marks (k + 1) 0) (mark-set heads k (omega (arith, lt))) (mark-set heads (k + 1) lt) (marks-rising heads k lt);
    roots = λ k d lt. lead-value roots k d is.roots_lead lt (λ i leads_to. is.all i (by_root i leads_to));
    references = λ k d lt f e inside.
        let mark = get_or marks k d in
        let set = filter_passes (bit heads) (range_with_len 0 (64 * length heads)) k d lt in
        lead-value (object_at edition words mark).references f e (is.done mark set).references inside (λ i leads_to. is.all i (by_reference mark i (is.reached mark set) leads_to));
    weak = λ k d lt f e inside.
        let mark = get_or marks k d in
        let set = filter_passes (bit heads) (range_with_len 0 (64 * length heads)) k d lt in
        subst (λ (w : ℕ). is_within edition (length words) w ≡ true) (get_or_default (object_at edition words mark).weak f 0 e inside) ((is.done mark set).weak f inside);
  }

  -- it is sound without its roots too
  pub told-sound : IsSound (told edition words heads)
  told-sound = record {
    few_words = is.few_words;
    few_roots = omega arith;
    placed = sound-of.placed;
    apart = sound-of.apart;
    roots = λ k d lt. absurd (omega (arith, lt));
    references = sound-of.references;
    weak = sound-of.weak;
  }

  pub told-indices : set_bits bits ≡ live_indices (live (told edition words heads))
  told-indices =
      all-runs (told edition words heads) told-sound bits
      (λ k j lt of. (is.done (get_or marks k 0) (mark-set heads k lt)).run j of)
      (λ j set.
      let at = is.only j set in
      let number = head-number heads at.0 at.1 in
      (number.0, number.1, subst (λ (i : ℕ). IsWordOf edition words i j) (sym number.2) at.2))
      is.room
