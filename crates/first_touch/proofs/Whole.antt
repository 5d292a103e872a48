-- The pages are together what slides.
use Rattle.std.proofs.Common.{◌≡◌, ℕ, zero, suc, ◌+◌, ◌-◌, ◌*◌, ◌≤◌, min, List, ◌++◌, take, drop, length, sym, ap, ◌∙◌, arith, drop-drop, length-drop, suc-mul, zero-mul}
use Rattle.std.proofs.lemmas.List.{length-map, drop_all, take-append-drop}
use mathlib.Core.Logic.{dite}
use native.Mathlib.Decide.{dec_le}
use native.Mathlib.Nat.{min-eq_left, min_comm}
use Rattle.heap_layout.specs.Heap.{Heap}
use Rattle.rest_marks.specs.Places.{IsFoundOf, word_now, words_now}
use Rattle.rest_slide.specs.Settled.{collected}
use Rattle.stopped_heap.proofs.Unchanged.{words-same}
use Rattle.first_touch.specs.Asked.{Asked, page_len, slid_page, joined_pages}

-- where the next page begins
behind : (k s : ℕ) → (k + 1) * s ≡ k * s + s
behind k s =
    let one : k + 1 ≡ suc k = omega arith in
    let same = ap (λ (m : ℕ). m * s) one in
    omega (arith, same, suc-mul k s)

-- a page, and what is behind it
split : (s n : ℕ) (xs : List ℕ) → length xs ≡ n → take (min s n) xs ++ drop s xs ≡ xs
split s n xs long = dite (dec_le s n)
    (λ le. ap (λ (m : ℕ). take m xs ++ drop s xs) (min-eq_left le) ∙ take-append-drop s xs)
    (λ more. ap (λ (m : ℕ). take m xs ++ drop s xs) (min_comm s n ∙ min-eq_left (omega (arith, more)))
    ∙ ap (λ (ys : List ℕ). take n xs ++ ys) (drop_all s xs (omega (arith, more, long))
    ∙ sym (drop_all n xs (omega (arith, long))))
    ∙ take-append-drop n xs)

module _ (asked : Asked) where
  abbrev slid : List ℕ
  slid = words_now asked.found asked.words

  many : length slid ≡ length asked.found.indices
  many = length-map asked.found.indices (word_now asked.found asked.words)

  -- n pages from page k on, if there are no more, are all words from there on
  pages_from : (n k : ℕ) → length asked.found.indices ≤ (k + n) * asked.size
      → joined_pages asked k n ≡ drop (k * asked.size) slid
  pages_from zero k all =
      let same : (k + 0) * asked.size ≡ k * asked.size = ap (λ (m : ℕ). m * asked.size) (omega arith) in
      sym (drop_all (k * asked.size) slid (omega (arith, all, same, many)))
  pages_from (suc n) k all =
      let same : (k + 1 + n) * asked.size ≡ (k + suc n) * asked.size = ap (λ (m : ℕ). m * asked.size) (omega arith) in
      let rest = pages_from n (k + 1) (omega (arith, all, same)) in
      let a : ℕ = k * asked.size in
      let further : drop asked.size (drop a slid) ≡ drop (a + asked.size) slid = drop-drop asked.size a slid in
      let next = rest ∙ ap (λ (m : ℕ). drop m slid) (behind k asked.size) ∙ sym further in
      ap (λ (xs : List ℕ). slid_page asked k ++ xs) next
      ∙ split asked.size (length asked.found.indices - a) (drop a slid) (omega (arith, length-drop a slid, many))

  -- what slides is the collected heap, if the words are those that were surveyed
  pub slides_to : (heap : Heap) → IsFoundOf asked.found heap → heap.words ≡ asked.words
      → slid ≡ (collected heap).words
  slides_to heap found same = ap (words_now asked.found) (sym same) ∙ words-same asked.found heap found

  pub page_of : (heap : Heap) (k : ℕ) → IsFoundOf asked.found heap → heap.words ≡ asked.words
      → slid_page asked k ≡ take (page_len asked k) (drop (k * asked.size) (collected heap).words)
  page_of heap k found same = ap (λ (xs : List ℕ). take (page_len asked k) (drop (k * asked.size) xs))
      (slides_to heap found same)

  pub pages_all : (heap : Heap) (pages : ℕ) → IsFoundOf asked.found heap → heap.words ≡ asked.words
      → length asked.found.indices ≤ pages * asked.size → joined_pages asked 0 pages ≡ (collected heap).words
  pages_all heap pages found same all =
      let first : (0 + pages) * asked.size ≡ pages * asked.size = ap (λ (m : ℕ). m * asked.size) (omega arith) in
      pages_from pages 0 (omega (arith, all, first))
      ∙ ap (λ (m : ℕ). drop m slid) (zero-mul asked.size) ∙ slides_to heap found same
