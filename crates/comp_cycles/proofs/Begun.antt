-- At the beginning of a cycle the slid heap has the objects of its from-space.
use Rattle.std.proofs.Common.{◌≡◌, ℕ, zero, suc, ◌+◌, ◌-◌, ◌*◌, ◌/◌, ◌%◌, ◌<◌, ◌≤◌, true, false, cond, Some, List, [], ◌∷◌, ◌++◌, length, get_or, take, zip, refl, sym, ap, ap₂, ◌∙◌, inl, inr, ⊎_elim, subst, arith, length-append}
use Rattle.std.specs.List.{range_with_len}
use Rattle.std.specs.Option.{unwrap_or}
use Rattle.std.proofs.lemmas.Bool.{cases_lt, cases_Bool}
use Rattle.std.proofs.lemmas.List.{length-map, get_or-map, get_or_append_left}
use Rattle.std.proofs.lemmas.List.Sums.{sum_by-take-le}
use mathlib.Core.Option.{some-ne-none}
use lib.ListN.{get_elem?}
use Rattle.heap_layout.specs.Header.{Head, header_of, size_of}
use Rattle.heap_layout.specs.Heap.{Object, header_at, object_at, live, from_address, is_target, IsPlaced, IsClosed}
use Rattle.heap_layout.specs.Values.{is_immediate}
use Rattle.heap_layout.proofs.Values.{nowhere-null, nowhere-immediate}
use Rattle.comp_cycles.proofs.Immediates.{not-immediate}
use Rattle.page_plan.specs.Sliding as sliding
use Rattle.page_plan.specs.Sliding.{size, live_words, new_address, forward, forwarded, forwarded_value, slid_words, to_address}
use Rattle.page_plan.proofs.Objects.{live-at, live_words-next, live_words-all, live_words-part, slid-reference, slid-other}
use Rattle.page_plan.proofs.NewAddresses.{forward-none}
use Rattle.page_plan.proofs.References.{address-is, address-only}
use Rattle.page_plan.proofs.Pages.{page-at}
use Rattle.comp_history.specs.Lists.{look}
use Rattle.comp_history.specs.Setup.{Setup, base_of}
use Rattle.comp_history.specs.Starts.{IsForwardingAddress}
use Rattle.comp_history.specs.Objects.{page_at, offset_at, IsMadeAt}
use Rattle.comp_history.proofs.Leading.{slid_base}
use Rattle.comp_history.proofs.Rows.{at_value}
use Rattle.comp_history.specs.OneThread.{OneThreadHeap, HasStart, IsNullOrStart, header_in, first_heap}
use Rattle.comp_history.proofs.Heaps.{first_holds, journals_of}
use Rattle.comp_cycles.specs.Stable.{StableHeap}
use Rattle.comp_cycles.specs.NumberedHeaps.{Names, number_at, names_in, pointers_of, numbered_object, numbered_word, IsNumberedAs, AreNumbered}
use Rattle.comp_cycles.proofs.Naming.{at_name, at_row, row_long}
use Rattle.comp_cycles.proofs.Living.{number_is, number_immediate, numbered_reference, numbered_other, Agrees}
use Rattle.comp_cycles.proofs.Lives.{Ordered}
use Rattle.comp_cycles.proofs.Targets.{object_long, object_word, target_cases, named_mark, named_null, named_none, forward_mark}

module _ (u : Setup) (closed : IsClosed u.heap) (slid : u.compacted ≡ sliding.pages (live u.heap)) where
  abbrev objects : List Object
  objects = live u.heap

  abbrev marks : List ℕ
  marks = u.heap.marks

  abbrev words : List ℕ
  words = u.heap.words

  abbrev first : OneThreadHeap
  first = first_heap u

  abbrev mark : ℕ → ℕ
  mark k = get_or marks k 0

  abbrev header : ℕ → Head
  header k = header_at u.heap.edition words (mark k)

  abbrev below : ℕ → ℕ
  below k = live_words (take k objects)

  pub count : length objects ≡ length marks
  count = length-map marks (object_at u.heap.edition words)

  -- a word of the slid heap
  slid_word : (i : ℕ) → i < live_words objects → first.word (to_address i) ≡ get_or (slid_words objects) i 0
  slid_word i lt =
      let p = i / 64 in
      let o = i % 64 in
      let page : page_at (to_address i) ≡ p = omega arith in
      let offset : offset_at (to_address i) ≡ o = omega arith in
      let few : p < u.compacted = omega (arith, lt, slid) in
      let here : 64 * p + o ≡ i = omega arith in
      ap₂ (λ q n. get_or (base_of u q) n 0) page offset ∙ ap (λ l. get_or l o 0) (slid_base u p few) ∙ page-at objects p o (omega arith) ∙ ap (λ n. get_or (slid_words objects) n 0) here

  pub below_next : (k : ℕ) → k < length marks → below (k + 1) ≡ below k + size_of (header k)
  below_next k lt = live_words-next u.heap.edition words marks k lt

  below_all : (k : ℕ) → below k ≤ live_words objects
  below_all k = sum_by-take-le size objects k

  below_more : (k d : ℕ) → below k ≤ below (k + d)
  below_more k zero = let z = ap below (let e : k ≡ k + 0 = omega arith in e) in omega (arith, z)
  below_more k (suc d) =
      let rest = below_more k d in
      let next = ap below (let e : k + d + 1 ≡ k + suc d = omega arith in e) in
      ⊎_elim
      (λ (lt : k + d < length marks). let step = below_next (k + d) lt in omega (arith, rest, next, step))
      (λ (le : length marks ≤ k + d).
      let here = live_words-all u.heap.edition words marks (k + d) le in
      let there = live_words-all u.heap.edition words marks (k + suc d) (omega (arith, le)) in
      omega (arith, rest, here, there))
      (cases_lt (k + d) (length marks))

  below_le : (k l : ℕ) → k ≤ l → below k ≤ below l
  below_le k l le = let m = below_more k (l - k) in let e = ap below (let z : k + (l - k) ≡ l = omega (arith, le) in z) in omega (arith, m, e)

  -- a later object comes after an earlier one
  pub addresses_apart : (k l : ℕ) → k < l → k < length marks → new_address objects k + size_of (header k) ≤ new_address objects l
  addresses_apart k l lt inside = let s = below_next k inside in let m = below_le (k + 1) l (omega (arith, lt)) in omega (arith, s, m)

  -- word j of the k-th object
  word_of : (k j : ℕ) → k < length marks → j < size_of (header k) → first.word (new_address objects k + j) ≡ get_or (slid_words objects) (below k + j) 0
  word_of k j lt inside =
      let at : new_address objects k + j ≡ to_address (below k + j) = omega arith in
      let s = below_next k lt in
      let all = below_all (k + 1) in
      ap first.word at ∙ slid_word (below k + j) (omega (arith, s, all, inside))

  -- the header of the k-th object
  head_word : (k : ℕ) → k < length marks → first.word (new_address objects k) ≡ get_or words (mark k) 0
  head_word k lt =
      ap first.word (let z : new_address objects k ≡ new_address objects k + 0 = omega arith in z) ∙ word_of k 0 lt (omega arith)
      ∙ slid-other u.heap closed k 0 lt (λ (z : 1 ≤ 0). absurd (omega (arith, z))) (omega arith) ∙ ap (λ n. get_or words n 0) (let z : mark k + 0 ≡ mark k = omega arith in z)

  pub head_is : (k : ℕ) → k < length marks → header_in first (new_address objects k) ≡ header k
  head_is k lt = ap (header_of u.heap.edition) (head_word k lt)

  -- the references and weak words of the k-th object
  reference_of : (k j : ℕ) → k < length marks → 1 ≤ j → j ≤ pointers_of (header k) → first.word (new_address objects k + j) ≡ forwarded_value u.heap.edition objects (get_or words (mark k + j) 0)
  reference_of k j lt low high = word_of k j lt (omega (arith, high)) ∙ slid-reference u.heap closed k j lt low high

  -- the other words of the k-th object
  other_of : (k j : ℕ) → k < length marks → (1 ≤ j → pointers_of (header k) < j) → j < size_of (header k) → first.word (new_address objects k + j) ≡ get_or words (mark k + j) 0
  other_of k j lt behind inside = word_of k j lt inside ∙ slid-other u.heap closed k j lt behind inside

  -- objects start only at forwarding addresses
  pub start_of : (a : ℕ) → HasStart first a → (k : ℕ) × (k < length marks) × (a ≡ new_address objects k)
  start_of a s = ⊎_elim
      (λ (is : IsForwardingAddress u.heap a). let k = address-only objects a is in (k.0, omega (arith, k.1, count), k.2))
      (λ (made : IsMadeAt u (journals_of []) a). let head = made.made in absurd (some-ne-none head.1 (sym head.2)))
      ((first_holds u).starts a s)

  pub start_there : (k : ℕ) → k < length marks → HasStart first (new_address objects k)
  start_there k lt = (first_holds u).objects (new_address objects k) (inl (address-is objects k (omega (arith, lt, count))))

  module _ (names : Names) (numbers : List ℕ) (stable : StableHeap) (later : List ℕ) (t : IsNumberedAs u.heap numbers stable)
      (is : names.numbers ≡ zip (first.starts ++ later) (numbers ++ range_with_len (stable.given + 1) (length later))) (named : names.edition ≡ u.heap.edition)
      (low_later : (i : ℕ) → i < length later → is_immediate names.edition (get_or later i 0) ≡ false) (null : number_at names 0 ≡ 0)
    where
      abbrev none : Object
      none = object_at u.heap.edition words 0

      starts_long : length first.starts ≡ length marks
      starts_long = length-map (range_with_len 0 (length objects)) (new_address objects) ∙ row_long 0 (length objects) ∙ count

      pub numbers_long : length numbers ≡ length marks
      numbers_long = sym (length-map numbers stable.words) ∙ ap length t.words ∙ length-map objects (numbered_object (names_in u.heap numbers)) ∙ count

      key : (k : ℕ) → k < length marks → get_or first.starts k 0 ≡ new_address objects k
      key k lt = at_row (new_address objects) 0 (length objects) k (omega (arith, lt, count)) ∙ ap (new_address objects) (let z : 0 + k ≡ k = omega arith in z)

      all_long : length (first.starts ++ later) ≡ length (numbers ++ range_with_len (stable.given + 1) (length later))
      all_long =
          length-append first.starts later ∙ ap₂ (λ x y. x + y) (starts_long ∙ sym numbers_long) (sym (row_long (stable.given + 1) (length later))) ∙ sym (length-append numbers (range_with_len (stable.given + 1) (length later)))

      -- the objects keep their numbers
      pub number_of : (k : ℕ) → k < length marks → number_at names (new_address objects k) ≡ get_or numbers k 0
      number_of k lt =
          number_is names (new_address objects k) (ap (λ e. is_immediate e (new_address objects k)) named ∙ not-immediate u.heap.edition (new_address objects k) (omega (arith, live_words-part u.heap closed k)))
          ∙ ap (λ l. look 0 l (new_address objects k)) is
          ∙ at_name (first.starts ++ later) (numbers ++ range_with_len (stable.given + 1) (length later)) k (new_address objects k) (omega (arith, length-append first.starts later, starts_long, lt)) all_long
          (get_or_append_left first.starts later 0 k (omega (arith, starts_long, lt)) ∙ key k lt)
          (λ i under e.
          let inside : i < length marks = omega (arith, under, lt) in
          let read : new_address objects i ≡ new_address objects k = sym (get_or_append_left first.starts later 0 i (omega (arith, starts_long, inside)) ∙ key i inside) ∙ e in
          let a = addresses_apart i k under inside in
          omega (arith, a, read))
          ∙ get_or_append_left numbers (range_with_len (stable.given + 1) (length later)) 0 k (omega (arith, numbers_long, lt))

      -- the objects keep their words
      object_of : (k : ℕ) → k < length marks → stable.words (get_or numbers k 0) ≡ numbered_object (names_in u.heap numbers) (object_at u.heap.edition words (mark k))
      object_of k lt =
          sym (get_or-map stable.words numbers k 0 [] (omega (arith, numbers_long, lt)))
          ∙ ap (λ l. get_or l k []) t.words
          ∙ get_or-map (numbered_object (names_in u.heap numbers)) objects k none [] (omega (arith, count, lt))
          ∙ ap (numbered_object (names_in u.heap numbers)) (live-at u.heap.edition words marks k)

      placed : (k : ℕ) → k < length marks → IsPlaced u.heap.edition words (mark k)
      placed k lt = closed.placed k 0 lt

      -- a word that is no immediate leads to the same object after it is forwarded; a weak word that leads to an
      -- unmarked object is null in both heaps
      forwarded_of : (w : ℕ) → is_immediate u.heap.edition w ≡ false → (number_at names (forwarded objects w) ≡ number_at (names_in u.heap numbers) w) × IsNullOrStart first (forwarded objects w)
      forwarded_of w other = ⊎_elim
          (λ (target : is_target marks w ≡ true). ⊎_elim
          (λ (zero_is : w ≡ 0).
          let f : forwarded objects w ≡ 0 = ap (forwarded objects) zero_is in
          (ap (number_at names) f ∙ null ∙ sym (ap (number_at (names_in u.heap numbers)) zero_is ∙ named_null u.heap closed numbers), inl (nowhere-null u.heap.edition (forwarded objects w) f)))
          (λ (some : (l : ℕ) × (l < length marks) × (from_address (get_or marks l 0) ≡ w)).
          let l = some.0 in
          let f : forwarded objects w ≡ new_address objects l = ap (forwarded objects) (sym some.2) ∙ ap (λ x. unwrap_or x 0) (forward_mark u.heap closed l some.1) in (
            ap (number_at names) f ∙ number_of l some.1 ∙ sym (ap (number_at (names_in u.heap numbers)) (sym some.2) ∙ named_mark u.heap closed numbers l numbers_long some.1),
            inr (subst (HasStart first) (sym f) (start_there l some.1)),
          ))
          (target_cases marks w target))
          (λ (no_target : is_target marks w ≡ false).
          let f : forwarded objects w ≡ 0 = ap (λ x. unwrap_or x 0) (forward-none u.heap.edition words marks w no_target) in
          (ap (number_at names) f ∙ null ∙ sym (named_none u.heap closed numbers w other no_target), inl (nowhere-null u.heap.edition (forwarded objects w) f)))
          (cases_Bool (is_target marks w))

      -- a word leads to the same object after it is forwarded, and an immediate stays
      pub leads_of : (w : ℕ) → (number_at names (forwarded_value u.heap.edition objects w) ≡ number_at (names_in u.heap numbers) w) × IsNullOrStart first (forwarded_value u.heap.edition objects w)
      leads_of w = ⊎_elim
          (λ (immediate : is_immediate u.heap.edition w ≡ true).
          let f : forwarded_value u.heap.edition objects w ≡ w = ap (λ b. unwrap_or (cond b (Some w) (forward objects w)) 0) immediate in (
            ap (number_at names) f ∙ number_immediate names w (ap (λ e. is_immediate e w) named ∙ immediate) ∙ sym (number_immediate (names_in u.heap numbers) w immediate),
            inl (nowhere-immediate u.heap.edition (forwarded_value u.heap.edition objects w) (ap (is_immediate u.heap.edition) f ∙ immediate)),
          ))
          (λ (other : is_immediate u.heap.edition w ≡ false).
          let f : forwarded_value u.heap.edition objects w ≡ forwarded objects w = ap (λ b. unwrap_or (cond b (Some w) (forward objects w)) 0) other in
          let to = forwarded_of w other in
          (ap (number_at names) f ∙ to.0, subst (IsNullOrStart first) (sym f) to.1))
          (cases_Bool (is_immediate u.heap.edition w))

      -- word j of the k-th object in both heaps
      same_word : (k j : ℕ) → k < length marks → j < size_of (header k) → get_or (stable.words (get_or numbers k 0)) j 0 ≡ numbered_word names (pointers_of (header k)) j (first.word (new_address objects k + j))
      same_word k j lt inside =
          let w = get_or words (mark k + j) 0 in
          let pointers = pointers_of (header k) in
          let from = names_in u.heap numbers in
          let slid = first.word (new_address objects k + j) in
          let read : get_or (stable.words (get_or numbers k 0)) j 0 ≡ numbered_word from pointers j w =
          ap (λ l. get_or l j 0) (object_of k lt) ∙ object_word from u.heap.edition words (mark k) j (placed k lt) inside in
          let stays : (1 ≤ j → pointers < j) → get_or (stable.words (get_or numbers k 0)) j 0 ≡ numbered_word names pointers j slid =
          λ behind. read ∙ numbered_other from pointers j w behind ∙ sym (numbered_other names pointers j slid behind ∙ other_of k j lt behind inside) in
          ⊎_elim
          (λ (no : j < 1). stays (λ low. absurd (omega (arith, no, low))))
          (λ (low : 1 ≤ j). ⊎_elim
          (λ (past : pointers < j). stays (λ _. past))
          (λ (high : j ≤ pointers).
          read ∙ numbered_reference from pointers j w low high
          ∙ sym (numbered_reference names pointers j slid low high ∙ ap (number_at names) (reference_of k j lt low high) ∙ (leads_of w).0))
          (cases_lt pointers j))
          (cases_lt j 1)

      -- the objects are the same in both heaps
      begun_numbered : AreNumbered names first stable
      begun_numbered = record {
        edition = t.edition;
        there = λ a s.
            let k = start_of a s in
            let n : number_at names a ≡ get_or numbers k.0 0 = ap (number_at names) k.2 ∙ number_of k.0 k.1 in
            (k.0, ap (λ l. get_elem? l k.0) t.there ∙ at_value numbers k.0 (number_at names a) (omega (arith, numbers_long, k.1)) (n ∙ default_is numbers k.0 (number_at names a) (omega (arith, numbers_long, k.1))));
        one = λ a b s s2 e.
            let k = start_of a s in
            let l = start_of b s2 in
            let n : get_or numbers k.0 0 ≡ get_or numbers l.0 0 = sym (ap (number_at names) k.2 ∙ number_of k.0 k.1) ∙ e ∙ (ap (number_at names) l.2 ∙ number_of l.0 l.1) in
            let same = t.once k.0 l.0 (omega (arith, numbers_long, k.1)) (omega (arith, numbers_long, l.1)) n in
            k.2 ∙ ap (new_address objects) same ∙ sym l.2;
        long = λ a s.
            let k = start_of a s in
            ap (λ x. length (stable.words x)) (ap (number_at names) k.2 ∙ number_of k.0 k.1) ∙ ap length (object_of k.0 k.1) ∙ object_long (names_in u.heap numbers) u.heap.edition words (mark k.0) (placed k.0 k.1)
            ∙ ap size_of (sym (ap (header_in first) k.2 ∙ head_is k.0 k.1));
        words = λ a j s lt.
            let k = start_of a s in
            let head : header_in first a ≡ header k.0 = ap (header_in first) k.2 ∙ head_is k.0 k.1 in
            ap (λ x. get_or (stable.words x) j 0) (ap (number_at names) k.2 ∙ number_of k.0 k.1) ∙ same_word k.0 j k.1 (subst (λ x. j < size_of x) head lt)
            ∙ ap (λ x. numbered_word names (pointers_of (header k.0)) j (first.word (x + j))) (sym k.2) ∙ ap (λ x. numbered_word names (pointers_of x) j (first.word (a + j))) (sym head);
      }
        where
          default_is : (l : List ℕ) (i d : ℕ) → i < length l → get_or l i 0 ≡ get_or l i d
          default_is [] i d lt = absurd (omega (arith, lt))
          default_is (x ∷ xs) zero d lt = refl
          default_is (x ∷ xs) (suc i) d lt = default_is xs i d (omega (arith, lt))

      pub begun : Agrees names first stable
      begun = record {
        named = named;
        numbered = begun_numbered;
        apart = λ a b s s2 lt.
            let k = start_of a s in
            let l = start_of b s2 in
            let head = ap size_of (ap (header_in first) k.2 ∙ head_is k.0 k.1) in
            ⊎_elim
            (λ (order : k.0 < l.0). let p = addresses_apart k.0 l.0 order k.1 in omega (arith, p, head, k.2, l.2))
            (λ (le : l.0 ≤ k.0). let m = below_le l.0 k.0 le in absurd (omega (arith, m, k.2, l.2, lt)))
            (cases_lt k.0 l.0);
        given = λ a s.
            let k = start_of a s in
            let n : number_at names a ≡ get_or numbers k.0 0 = ap (number_at names) k.2 ∙ number_of k.0 k.1 in
            let g = t.given k.0 (omega (arith, numbers_long, k.1)) in
            (omega (arith, g.0, n), omega (arith, g.1, n));
        leads = λ a j s low high.
            let k = start_of a s in
            let head : header_in first a ≡ header k.0 = ap (header_in first) k.2 ∙ head_is k.0 k.1 in
            let few : j ≤ pointers_of (header k.0) = subst (λ x. j ≤ pointers_of x) head high in
            let w = get_or words (mark k.0 + j) 0 in
            subst (IsNullOrStart first) (sym (ap (λ x. first.word (x + j)) k.2 ∙ reference_of k.0 j k.1 low few)) (leads_of w).1;
      }

      pub ordered : Ordered names first stable.given later
      ordered = record {
        keys = first.starts;
        numbers = numbers;
        long = starts_long ∙ sym numbers_long;
        is = is;
        starts = λ i lt. let inside : i < length marks = omega (arith, lt, starts_long) in subst (HasStart first) (sym (key i inside)) (start_there i inside);
        low = low_later;
      }
