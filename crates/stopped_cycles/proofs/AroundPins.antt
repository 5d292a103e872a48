-- What a collection around pinned objects leaves is sound, and the same heap in object numbers.
use Rattle.std.proofs.Common.{◌≡◌, ℕ, zero, suc, ◌+◌, ◌-◌, ◌^◌, ◌<◌, ◌≤◌, ◌==◌, Bool, true, false, cond, List, [], ◌∷◌, length, get_or, drop, map, refl, sym, ap, ◌∙◌, arith}
use Rattle.std.specs.List.{list_any}
use Rattle.std.proofs.lemmas.Bool.{false_from_ne_true}
use Rattle.std.proofs.lemmas.List.{length-map, get_or-drop, get_or-take}
use Rattle.heap_layout.specs.Header.{size_of}
use Rattle.heap_layout.specs.Heap.{Heap, Object, header_at, object_at, live, from_address}
use Rattle.heap_layout.specs.Values.{is_immediate}
use Rattle.page_plan.specs.Sliding.{size}
use Rattle.page_plan.proofs.Marks.{has-address}
use Rattle.page_plan.proofs.Objects.{live-at}
use Rattle.comp_cycles.specs.NumberedHeaps.{IsNumberedAs}
use Rattle.comp_cycles.specs.Stable.{StableHeap}
use Rattle.comp_cycles.proofs.ObjectWords.{words-length}
use Rattle.comp_cycles.proofs.Targets.{target_mark}
use Rattle.rest_marks.specs.Reached.{IsSound}
use Rattle.pinned_heap.specs.Around.{is_address_of, led_around, led_object, place_in, stays, IsSlidAround}
use Rattle.pinned_heap.specs.Collecting.{IsCollectedAround}
use Rattle.pinned_heap.specs.Pins.{indices_of, places_from, AreAtMost, IsPlacement}
use Rattle.pinned_heap.specs.declared.run.Run.{Run}
use Rattle.pinned_heap.proofs.Linking.{address-marked, in-order, place-found}
use Rattle.pinned_heap.proofs.Placed.{moved-down, placed}
use Rattle.stopped_cycles.specs.Left.{left_around}
use Rattle.stopped_cycles.proofs.Moved.{left-sound, numbered-moved, IsMoved, LeadsTo}
use Rattle.stopped_cycles.proofs.Numbers.{address-plain, IsNoMark}

-- ---- places

-- as many as objects
places-long : (staying : ℕ → Bool) (next : ℕ) (objects : List Object) → length (places_from staying next objects) ≡ length objects
places-long staying next [] = refl
places-long staying next (object ∷ objects) = ap suc (places-long staying (cond (staying object.index) object.index next + size object) objects)

-- none is above its object
down-at : (places : List ℕ) (objects : List Object) (k : ℕ) (d : Object) → AreAtMost places (indices_of objects) → k < length objects → get_or places k 0 ≤ (get_or objects k d).index
down-at places [] k d are lt = absurd (omega (arith, lt))
down-at [] (object ∷ objects) k d are lt = absurd are
down-at (place ∷ places) (object ∷ objects) zero d are lt = are.0
down-at (place ∷ places) (object ∷ objects) (suc k) d are lt = down-at places objects k d are.1 (omega (arith, lt))

-- an object ends before the next one starts
apart-at : (staying : ℕ → Bool) (low : ℕ) (objects : List Object) (places : List ℕ) (k : ℕ) (d : Object) → IsPlacement staying low objects places → suc k < length objects
    → get_or places k 0 + size (get_or objects k d) ≤ get_or places (suc k) 0
apart-at staying low [] places k d is lt = absurd (omega (arith, lt))
apart-at staying low (object ∷ objects) [] k d is lt = absurd is
apart-at staying low (object ∷ []) (place ∷ places) k d is lt = absurd (omega (arith, lt))
apart-at staying low (object ∷ next ∷ objects) (place ∷ []) k d is lt = absurd is.2
apart-at staying low (object ∷ next ∷ objects) (place ∷ behind ∷ places) zero d is lt = is.2.0
apart-at staying low (object ∷ next ∷ objects) (place ∷ behind ∷ places) (suc k) d is lt =
    apart-at staying (place + size object) (next ∷ objects) (behind ∷ places) k d is.2 (omega (arith, lt))

-- ---- of a sound heap

module _ (heap : Heap) (sound : IsSound heap) (staying : ℕ → Bool) where
  abbrev objects : List Object
  objects = live heap

  abbrev mark : ℕ → ℕ
  mark k = get_or heap.marks k 0

  abbrev places : List ℕ
  places = places_from staying 0 (live heap)

  abbrev place : ℕ → ℕ
  place k = get_or places k 0

  abbrev led : ℕ → ℕ
  led = led_around heap.edition staying (live heap)

  abbrev to : ℕ → ℕ
  to word = from_address (place_in staying 0 objects (word - 2 ^ 32))

  abbrev first : Object
  first = object_at heap.edition heap.words 0

  many : length objects ≡ length heap.marks
  many = length-map heap.marks (object_at heap.edition heap.words)

  -- a word that is no immediate
  led-plain : (word : ℕ) (known : Bool) → is_immediate heap.edition word ≡ false → list_any (λ mark. from_address mark == word) heap.marks ≡ known → led word ≡ cond known (to word) 0
  led-plain word known plain is =
      ap (λ (b : Bool). cond b word (cond (is_address_of objects word) (to word) 0)) plain
      ∙ ap (λ (b : Bool). cond b (to word) 0) (address-marked heap.edition heap.words heap.marks word ∙ is)

  -- the address of a live object
  led-there : (k : ℕ) → k < length heap.marks → led (from_address (mark k)) ≡ from_address (place k)
  led-there k lt =
      let word = from_address (mark k) in
      let object = live-at heap.edition heap.words heap.marks k in
      let index : word - 2 ^ 32 ≡ mark k = omega arith in
      led-plain word true (address-plain heap sound k lt) (target_mark heap.marks word k lt refl)
      ∙ ap (λ (i : ℕ). from_address (place_in staying 0 objects i)) index
      ∙ ap (λ (o : Object). from_address (place_in staying 0 objects o.index)) (sym object)
      ∙ ap from_address (place-found staying 0 0 objects k first (in-order heap sound) (omega (arith, lt, many)))

  -- any other word
  led-lost : (word : ℕ) → is_immediate heap.edition word ≡ false → IsNoMark heap.marks word → led word ≡ 0
  led-lost word plain none =
      led-plain word false plain (false_from_ne_true (list_any (λ mark. from_address mark == word) heap.marks) (λ some.
      let at = has-address heap.edition heap.words heap.marks word 0 some in none at.number at.known at.here))

  led-leads : LeadsTo heap places led
  led-leads = record {
    immediate = λ word is. ap (λ (b : Bool). cond b word (cond (is_address_of objects word) (to word) 0)) is;
    there = led-there;
    lost = led-lost;
  }

  -- an object that slid has its words at its place
  slid-at : (after : List ℕ) → IsSlidAround heap staying after → (k f : ℕ) → k < length heap.marks → f < size_of (header_at heap.edition heap.words (mark k))
      → get_or after (place k + f) 0 ≡ get_or (led_object staying heap k) f 0
  slid-at after slid k f lt inside =
      let own = led_object staying heap k in
      let long = words-length heap.edition led heap.words (mark k) (sound.placed k 0 lt) in
      sym (get_or-drop (place k) after f 0)
      ∙ sym (get_or-take (length own) (drop (place k) after) f 0 (omega (arith, long, inside)))
      ∙ ap (λ (xs : List ℕ). get_or xs f 0) (slid.objects k lt)

  around-moved : (after roots : List ℕ) → IsSlidAround heap staying after → roots ≡ map led heap.roots → IsMoved heap led after places roots
  around-moved after roots slid roots_are =
      let order = in-order heap sound in
      let down = moved-down staying 0 0 objects order (omega arith) in
      let placement = placed staying 0 0 objects order (omega arith) in
      record {
        few = omega (arith, slid.long, sound.few_words);
        many = places-long staying 0 objects ∙ many;
        within = λ k lt.
            let low = down-at places objects k first down (omega (arith, lt, many)) in
            let index = ap (λ (o : Object). o.index) (live-at heap.edition heap.words heap.marks k) in
            let was = sound.placed k 0 lt in
            omega (arith, low, index, was.within, slid.long);
        apart = λ k lt.
            let one : suc k ≡ k + 1 = omega arith in
            let next = apart-at staying 0 objects places k first placement (omega (arith, lt, many)) in
            let own = ap size (live-at heap.edition heap.words heap.marks k) in
            omega (arith, next, own, ap place one);
        objects = slid-at after slid;
        leads = led-leads;
        roots = roots_are;
      }

module _ (heap : Heap) (pins : List ℕ) (end : ℕ) (runs : List Run) (roots after : List ℕ) (is : IsCollectedAround heap pins end runs roots after) where
  abbrev led_to : ℕ → ℕ
  led_to = led_around heap.edition (stays pins) (live heap)

  abbrev starts : List ℕ
  starts = places_from (stays pins) 0 (live heap)

  left-moved : IsMoved heap led_to after starts roots
  left-moved = around-moved heap is.sound (stays pins) after roots is.slid is.roots_are

  pub around-sound : IsSound (left_around heap pins roots after)
  around-sound = left-sound heap led_to after starts roots is.sound left-moved

  pub around-numbered : (numbers : List ℕ) (stable : StableHeap) → IsNumberedAs heap numbers stable → IsNumberedAs (left_around heap pins roots after) numbers stable
  around-numbered = numbered-moved heap led_to after starts roots is.sound left-moved
