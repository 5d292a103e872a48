-- The words of a marked object after the move.
use Rattle.std.proofs.Common.{◌≡◌, ℕ, ◌+◌, ◌<◌, ◌≤◌, List, length, get_or, sym, ap, ◌∙◌, arith}
use Rattle.heap_layout.specs.Header.{Head, refs_of, weak_of}
use Rattle.heap_layout.specs.Heap.{Heap, header_at, live, IsClosed}
use Rattle.comp_cycles.proofs.ObjectWords.{word-changed, word-stays}
use Rattle.moved_heaps.specs.Moved.{led_value, marked, size_at, words_after}

-- how many references and weak words the k-th marked object has
abbrev pub pointers_at : Heap → ℕ → ℕ
pointers_at heap k = refs_of (header_at heap.edition heap.words (get_or heap.marks k 0)) + weak_of (header_at heap.edition heap.words (get_or heap.marks k 0))

module _ (heap : Heap) (closed : IsClosed heap) (places : List ℕ) (k offset : ℕ) (there : k < length heap.marks) where
  -- a reference or a weak word leads to a new place
  pub after-led : 1 ≤ offset → offset ≤ pointers_at heap k → get_or (words_after (live heap) places (marked heap k)) offset 0 ≡ led_value heap.edition (live heap) places (get_or heap.words (get_or heap.marks k 0 + offset) 0)
  after-led low within = word-changed heap.edition (led_value heap.edition (live heap) places) heap.words (get_or heap.marks k 0) offset (closed.placed k 0 there) low within

  -- any other word stays
  pub after-kept : (1 ≤ offset → pointers_at heap k < offset) → offset < size_at heap k → get_or (words_after (live heap) places (marked heap k)) offset 0 ≡ get_or heap.words (get_or heap.marks k 0 + offset) 0
  after-kept behind inside = word-stays heap.edition (led_value heap.edition (live heap) places) heap.words (get_or heap.marks k 0) offset (closed.placed k 0 there) behind inside

  module _ (marks words : List ℕ) (same_marks : marks ≡ heap.marks) (same_words : words ≡ heap.words) where
    read : get_or words (get_or marks k 0 + offset) 0 ≡ get_or heap.words (get_or heap.marks k 0 + offset) 0
    read = ap (λ (xs : List ℕ). get_or xs (get_or marks k 0 + offset) 0) same_words ∙ ap (λ (xs : List ℕ). get_or heap.words (get_or xs k 0 + offset) 0) same_marks

    -- the first word behind the references and weak words, as the header says it
    first_data : (header : Head) (first : ℕ) → header ≡ header_at heap.edition heap.words (get_or marks k 0) → first ≡ 1 + refs_of header + weak_of header → first ≡ 1 + pointers_at heap k
    first_data header first is at =
        let there_at : refs_of header + weak_of header ≡ pointers_at heap k = ap (λ (h : Head). refs_of h + weak_of h) (is ∙ ap (λ (xs : List ℕ). header_at heap.edition heap.words (get_or xs k 0)) same_marks) in
        omega (arith, at, there_at)

    pub word_led : (header : Head) (first : ℕ) → header ≡ header_at heap.edition heap.words (get_or marks k 0) → first ≡ 1 + refs_of header + weak_of header → 0 < offset → offset < first
        → led_value heap.edition (live heap) places (get_or words (get_or marks k 0 + offset) 0) ≡ get_or (words_after (live heap) places (marked heap k)) offset 0
    word_led header first is at low within =
        let end = first_data header first is at in
        ap (led_value heap.edition (live heap) places) read ∙ sym (after-led (omega (arith, low)) (omega (arith, within, end)))

    pub first_kept : offset ≡ 0 → get_or words (get_or marks k 0 + offset) 0 ≡ get_or (words_after (live heap) places (marked heap k)) offset 0
    first_kept zero_is = read ∙ sym (after-kept (λ low. absurd (omega (arith, low, zero_is))) (omega (arith, zero_is)))

    pub data_kept : (header : Head) (first : ℕ) → header ≡ header_at heap.edition heap.words (get_or marks k 0) → first ≡ 1 + refs_of header + weak_of header → first ≤ offset → offset < size_at heap k
        → get_or words (get_or marks k 0 + offset) 0 ≡ get_or (words_after (live heap) places (marked heap k)) offset 0
    data_kept header first is at behind inside =
        let end = first_data header first is at in
        read ∙ sym (after-kept (λ low. omega (arith, behind, end)) inside)
