-- Why sliding is lawful.
use Rattle.std.proofs.Common.{◌≡◌, ℕ, zero, suc, ◌+◌, ◌-◌, ◌<◌, ◌≤◌, Bool, true, false, cond, Option, Some, None, length, get_or, take, refl, sym, ap, ◌∙◌, inl, inr, ⊎_elim, arith, ne_eqb}
use Rattle.std.proofs.Math.Path.{fun_ext}
use Rattle.std.specs.List.{range_with_len}
use Rattle.std.specs.Option.{option_map}
use Rattle.std.specs.Prelude.{unwrap_or}
use Rattle.std.proofs.lemmas.Bool.{cases_lt}
use Rattle.std.proofs.lemmas.List.{length-map, get_or-map}
use Rattle.std.proofs.lemmas.List.Sums.{sum_by-take-le}
use Rattle.heap_layout.specs.Values.{is_immediate}
use Rattle.heap_layout.specs.Heap.{Heap, from_address, live, IsClosed}
use Rattle.page_plan.specs.Sliding.{forward, forwarded, forwarded_value, live_words, new_address, number_of, size, slid_words, to_address}
use Rattle.page_plan.proofs.Objects.{live_words-next, slid-address, slid-length}
use Rattle.comp_cycles.proofs.Naming.{at_row, row_long}
use Rattle.comp_cycles.proofs.ObjectWords.{words_by}
use Rattle.moved_heaps.specs.Moved.{IsLawful, led, led_value, marked, place, size_at}
use Rattle.moved_heaps.specs.Slid.{slid}
use Rattle.moved_heaps.proofs.Finding.{led-unmarked, marked_number, number_below}

module _ (heap : Heap) (closed : IsClosed heap) where
  many : length (slid heap).places ≡ length heap.marks
  many = length-map (range_with_len 0 (length heap.marks)) (λ k. live_words (take k (live heap))) ∙ row_long 0 (length heap.marks)

  place_is : (k : ℕ) → k < length heap.marks → place (slid heap) k ≡ live_words (take k (live heap))
  place_is k lt = at_row (λ n. live_words (take n (live heap))) 0 (length heap.marks) k lt ∙ ap (λ n. live_words (take n (live heap))) (let z : 0 + k ≡ k = omega arith in z)

  -- an object ends where the next one begins
  next_is : (k : ℕ) → k < length heap.marks → live_words (take (k + 1) (live heap)) ≡ live_words (take k (live heap)) + size_at heap k
  next_is k lt = live_words-next heap.edition heap.words heap.marks k lt

  rise : (k d : ℕ) → k + d ≤ length heap.marks → live_words (take k (live heap)) ≤ live_words (take (k + d) (live heap))
  rise k zero le = let same = ap (λ n. live_words (take n (live heap))) (let z : k + 0 ≡ k = omega arith in z) in omega (arith, same)
  rise k (suc d) le =
      let low = rise k d (omega (arith, le)) in
      let next = next_is (k + d) (omega (arith, le)) in
      let same = ap (λ n. live_words (take n (live heap))) (let z : k + suc d ≡ k + d + 1 = omega arith in z) in
      omega (arith, low, next, same)

  -- an object ends before a later one begins
  ends_before : (k l : ℕ) → k < l → l < length heap.marks → place (slid heap) k + size_at heap k ≤ place (slid heap) l
  ends_before k l below lt =
      let d = l - (k + 1) in
      let at : k + 1 + d ≡ l = omega (arith, below) in
      let low = rise (k + 1) d (omega (arith, at, lt)) in
      let same = ap (λ n. live_words (take n (live heap))) at in
      omega (arith, low, same, next_is k (omega (arith, below, lt)), place_is k (omega (arith, below, lt)), place_is l lt)

  found_led : (found : Option ℕ) → ((k : ℕ) → found ≡ Some k → k < length heap.marks)
      → unwrap_or (option_map (new_address (live heap)) found) 0 ≡ unwrap_or (option_map (λ k. to_address (get_or (slid heap).places k 0)) found) 0
  found_led None below = refl
  found_led (Some k) below = ap to_address (sym (place_is k (below k refl)))

  -- a word is forwarded to the new place of its object
  forwarded_is : (w : ℕ) → forwarded (live heap) w ≡ led (live heap) (slid heap).places w
  forwarded_is zero = sym (led-unmarked heap (slid heap).places 0 (λ i lt e. omega (arith, e)))
  forwarded_is (suc w) =
      ap (λ (b : Bool). unwrap_or (cond b (Some 0) (option_map (new_address (live heap)) (number_of (live heap) (suc w)))) 0) (ne_eqb (suc w) 0 (λ e. omega (arith, e)))
      ∙ found_led (number_of (live heap) (suc w)) (number_below heap (suc w))

  -- an immediate stays, in both
  value_is : (w : ℕ) → forwarded_value heap.edition (live heap) w ≡ led_value heap.edition (live heap) (slid heap).places w
  value_is w =
      elim (is_immediate heap.edition w) as (λ b. unwrap_or (cond b (Some w) (forward (live heap) w)) 0 ≡ cond b w (led (live heap) (slid heap).places w)) [
        | true ↦ refl
        | false ↦ forwarded_is w
      ]

  pub slid_is_lawful : IsLawful heap (slid heap)
  slid_is_lawful = record {
    head = record { edition = refl; places = many; roots = length-map heap.roots (forwarded_value heap.edition (live heap)) };
    inside = λ k lt. omega (arith, place_is k lt, next_is k lt, sum_by-take-le size (live heap) (k + 1), slid-length heap closed);
    apart = λ k l ltk ltl other. ⊎_elim
        (λ (below : k < l). inl (ends_before k l below ltl))
        (λ (le : l ≤ k). inr (ends_before l k (let lt : l < k = omega (arith, le, other) in lt) ltk))
        (cases_lt k l);
    roots = λ i lt. get_or-map (forwarded_value heap.edition (live heap)) heap.roots i 0 0 lt ∙ value_is (get_or heap.roots i 0);
    whole = λ k lt offset inside.
        ap (λ n. get_or (slid_words (live heap)) (n + offset) 0) (place_is k lt)
        ∙ slid-address heap closed k offset lt inside
        ∙ ap (λ (g : ℕ → ℕ). get_or (words_by g (marked heap k)) offset 0) (fun_ext value_is);
  }

  -- the plan forwards the old address of an object to that of its place
  pub forwards_to_place : (k : ℕ) → k < length heap.marks → forward (live heap) (from_address (get_or heap.marks k 0)) ≡ Some (to_address (place (slid heap) k))
  forwards_to_place k lt =
      let old = from_address (get_or heap.marks k 0) in
      ap (λ (b : Bool). cond b (Some 0) (option_map (new_address (live heap)) (number_of (live heap) old))) (ne_eqb old 0 (λ e. omega (arith, e)))
      ∙ ap (λ (found : Option ℕ). option_map (new_address (live heap)) found) (marked_number heap closed k lt)
      ∙ ap (λ (n : ℕ). Some (to_address n)) (sym (place_is k lt))
