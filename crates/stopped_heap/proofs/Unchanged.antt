-- Words that are those that were surveyed.
use Rattle.std.proofs.Common.{◌≡◌, ℕ, ◌+◌, ◌-◌, ◌^◌, ◌<◌, ◌≤◌, ◌==◌, Bool, cond, Option, List, length, get_or, take, inl, inr, refl, sym, ap, subst, ◌∙◌, arith}
use Rattle.std.proofs.Math.Path.{fun_ext}
use Rattle.std.specs.Prelude.{unwrap_or}
use Rattle.std.proofs.lemmas.Bool.{cases_Bool, cases_eq, ne_eqb, both_ways}
use Rattle.std.proofs.lemmas.Grind.{same_number_lists}
use Rattle.std.proofs.lemmas.List.{length-map}
use Rattle.heap_layout.specs.declared.edition.Edition.{Edition}
use Rattle.heap_layout.specs.Header.{refs_of, size_of}
use Rattle.heap_layout.specs.Heap.{Heap, header_at, object_at, live, is_target, is_value, IsValue}
use Rattle.heap_layout.specs.Values.{is_immediate}
use Rattle.mark_tables.specs.LiveWords.{live_below, live_indices}
use Rattle.page_plan.specs.Sliding.{live_words}
use Rattle.page_plan.proofs.Marks.{length-live}
use Rattle.page_plan.proofs.NewAddresses.{forward-none}
use Rattle.page_plan.proofs.Ranks.{covered}
use Rattle.rest_marks.specs.Places.{led_by, led_words, word_now, words_now, Found, IsFoundOf, IsReferenceNow, IsSlideFault}
use Rattle.rest_marks.specs.Reached.{IsSound}
use Rattle.rest_slide.specs.Settled.{lowered, settled_word, settled_words}
use Rattle.rest_marks.specs.declared.fault.SlideFault.{SlideFault}
use Rattle.rest_marks.specs.declared.fault.SlideFault.TheVariants.{NoSuchPart, OtherCount, Changed, Unmarked}
use Rattle.rest_marks.proofs.BitsBelow.{reference-value, leads as target-leads}
use Rattle.rest_slide.proofs.Placing.{found_of, starts-next, size-is, index-is, owner-is, word-is}
use Rattle.rest_slide.proofs.Settling.{settled-all, settled-at, settled-immediate, settled-plain, settled-null, settled-lost, lowered-plain}

-- what was found of a heap is what is found of it
found-is : (found : Found) (heap : Heap) → IsFoundOf found heap → found_of heap found.room ≡ found
found-is found heap of =
    ap (λ (e : Edition). record { edition = e; count = length heap.words; marks = heap.marks; indices = live_indices (live heap); room = found.room }) of.edition
    ∙ ap (λ (n : ℕ). record { edition = found.edition; count = n; marks = heap.marks; indices = live_indices (live heap); room = found.room }) of.count
    ∙ ap (λ (ms : List ℕ). record { edition = found.edition; count = found.count; marks = ms; indices = live_indices (live heap); room = found.room }) of.marks
    ∙ ap (λ (is : List ℕ). record { edition = found.edition; count = found.count; marks = found.marks; indices = is; room = found.room }) (sym of.indices)

module _ (heap : Heap) (sound : IsSound heap) (room : ℕ) where
  abbrev found : Found
  found = found_of heap room

  -- words lead where they lead after the collection
  same-led : (word : ℕ) → led_by found word ≡ settled_word heap.edition (live heap) word
  same-led word =
      let below = live_below (live_indices (live heap)) (word - 2 ^ 32) in
      let to = 2 ^ 32 + below in
      let target = is_target heap.marks word in
      elim (cases_Bool (is_immediate heap.edition word)) [
        | inl is ↦ ap (λ (b : Bool). cond b word (cond (word == 0) 0 (cond target to 0))) is ∙ sym (settled-immediate heap.edition (live heap) word is)
        | inr plain ↦ ap (λ (b : Bool). cond b word (cond (word == 0) 0 (cond target to 0))) plain ∙ elim (cases_eq word 0) [
          | inl null ↦
              ap (λ (w : ℕ). cond (w == 0) 0 (cond target to 0)) null ∙ sym (settled-null heap.edition (live heap))
              ∙ ap (settled_word heap.edition (live heap)) (sym null)
          | inr other ↦ ap (λ (b : Bool). cond b 0 (cond target to 0)) (ne_eqb word 0 other) ∙ elim (cases_Bool target) [
            | inl is ↦
                let leads_to = target-leads heap sound word is other (live_indices (live heap)) refl below refl in
                let small : 2 ^ 33 + below < 2 ^ 63 = omega (arith, leads_to.few) in
                let down : 2 ^ 33 + below - 2 ^ 32 ≡ to = omega arith in
                ap (λ (b : Bool). cond b to 0) is
                ∙ sym (settled-plain heap.edition (live heap) word plain ∙ ap (λ (o : Option ℕ). lowered heap.edition (unwrap_or o 0)) leads_to.to
                ∙ lowered-plain heap.edition (2 ^ 33 + below) small ∙ down)
            | inr fails ↦
                ap (λ (b : Bool). cond b to 0) fails
                ∙ sym (settled-lost heap.edition (live heap) word plain (forward-none heap.edition heap.words heap.marks word fails))
          ]
        ]
      ]

  -- so what slides is what slides
  same-words : words_now found heap.words ≡ settled_words (live heap)
  same-words =
      let objects = live heap in
      let indices = live_indices objects in
      let all = settled_words objects in
      let long : length (words_now found heap.words) ≡ length all = omega (arith, length-map indices (word_now found heap.words), length-live objects, settled-all heap sound) in
      same_number_lists (words_now found heap.words) all long (λ n lt.
      let at = covered objects n (omega (arith, lt, length-map indices (word_now found heap.words), length-live objects)) in
      let k = at.0 in
      let known : k < length heap.marks = omega (arith, at.1.known, length-map heap.marks (object_at heap.edition heap.words)) in
      let f = n - live_words (take k objects) in
      let inside : f < size_of (header_at heap.edition heap.words (get_or heap.marks k 0)) = omega (arith, at.1.begun, at.1.ends, starts-next heap sound room k known) in
      let index : live_words (take k objects) + f ≡ n = omega (arith, at.1.begun) in
      ap (λ (m : ℕ). get_or (words_now found heap.words) m 0) (sym index)
      ∙ word-is heap sound room heap.words k f known inside
      ∙ ap (λ (g : ℕ → ℕ). get_or (led_words g (object_at heap.edition heap.words (get_or heap.marks k 0))) f 0) (fun_ext same-led)
      ∙ sym (settled-at heap sound k f known inside)
      ∙ ap (λ (m : ℕ). get_or all m 0) index)

  -- and no part is refused
  never-refused : (first count : ℕ) (fault : SlideFault) → first + count ≤ length (live_indices (live heap)) → IsSlideFault found heap.words first count fault → ⊥
  never-refused first count NoSuchPart within is = omega (arith, is, within)
  never-refused first count OtherCount within is = is.1 refl
  never-refused first count (Changed i) within is =
      let sized = ap (λ (m : ℕ). size_of (header_at heap.edition heap.words m)) is.3 in
      is.5 (omega (arith, sized, size-is heap sound room is.1 is.2))
  never-refused first count (Unmarked i) within is =
      let objects = live heap in
      let n = is.1 in
      let at = covered objects n (omega (arith, is.3, within, length-live objects)) in
      let k = at.0 in
      let known : k < length heap.marks = omega (arith, at.1.known, length-map heap.marks (object_at heap.edition heap.words)) in
      let f = n - live_words (take k objects) in
      let inside : f < size_of (header_at heap.edition heap.words (get_or heap.marks k 0)) = omega (arith, at.1.begun, at.1.ends, starts-next heap sound room k known) in
      let index : live_words (take k objects) + f ≡ n = omega (arith, at.1.begun) in
      let here : i ≡ get_or heap.marks k 0 + f = is.4 ∙ ap (λ (m : ℕ). get_or (live_indices objects) m 0) (sym index) ∙ index-is heap sound room k f known inside in
      let refers : IsReferenceNow found heap.words (get_or heap.marks k 0 + f) = subst (IsReferenceNow found heap.words) here is.5 in
      let owns = owner-is heap sound room k f known inside in
      let positive : 1 ≤ f = omega (arith, refers.0, owns) in
      let few : f ≤ refs_of (header_at heap.edition heap.words (get_or heap.marks k 0)) =
      omega (arith, refers.1, owns, ap (λ (m : ℕ). refs_of (header_at heap.edition heap.words m)) owns) in
      let value = subst (λ (m : ℕ). IsValue heap.edition heap.marks (get_or heap.words m 0)) (sym here) (reference-value heap sound k f known positive few) in
      both_ways (is_value heap.edition heap.marks (get_or heap.words i 0)) is.6 value

-- ---- of what was found

pub led-same : (found : Found) (heap : Heap) (word : ℕ) → IsFoundOf found heap → led_by found word ≡ settled_word heap.edition (live heap) word
led-same found heap word of = ap (λ (f : Found). led_by f word) (sym (found-is found heap of)) ∙ same-led heap of.sound found.room word

pub words-same : (found : Found) (heap : Heap) → IsFoundOf found heap → words_now found heap.words ≡ settled_words (live heap)
words-same found heap of = ap (λ (f : Found). words_now f heap.words) (sym (found-is found heap of)) ∙ same-words heap of.sound found.room

pub no-refusal : (found : Found) (heap : Heap) (first count : ℕ) (fault : SlideFault) → IsFoundOf found heap → first + count ≤ length found.indices
    → IsSlideFault found heap.words first count fault → ⊥
no-refusal found heap first count fault of within is =
    never-refused heap of.sound found.room first count fault (omega (arith, within, ap length of.indices))
    (subst (λ (f : Found). IsSlideFault f heap.words first count fault) (sym (found-is found heap of)) is)
