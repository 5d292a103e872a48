-- Without pins all slide as in a collection within the words.
use Rattle.std.proofs.Common.{◌≡◌, ◌≢◌, ℕ, ◌+◌, ◌-◌, ◌^◌, ◌<◌, ◌==◌, ◌||◌, Bool, true, false, cond, Option, List, [], ◌∷◌, ◌++◌, length, get_or, take, drop, map, inl, inr, refl, sym, ap, subst, ◌∙◌, arith, length-append, length-drop}
use Rattle.std.specs.List.{list_any}
use Rattle.std.specs.Prelude.{unwrap_or}
use Rattle.std.proofs.Math.Path.{fun_ext}
use Rattle.std.proofs.lemmas.Bool.{cases_Bool, cases_eq, cases_lt, eq-eqb, ne_eqb, or_right}
use Rattle.std.proofs.lemmas.Grind.{same_number_lists}
use Rattle.std.proofs.lemmas.List.{append-nil, length-map, get_or_append_left, get_or-append_right, get_or-drop, get_or-take}
use Rattle.heap_layout.specs.declared.edition.Edition.{Edition}
use Rattle.heap_layout.specs.Header.{size_of}
use Rattle.heap_layout.specs.Heap.{Heap, Object, from_address, header_at, is_target, live, object_at, IsTarget}
use Rattle.heap_layout.specs.Values.{is_immediate}
use Rattle.mark_tables.specs.LiveWords.{live_below, live_indices, live_words, size}
use Rattle.page_plan.proofs.Covering.{live_words-cons}
use Rattle.page_plan.proofs.Marks.{has-address}
use Rattle.page_plan.proofs.NewAddresses.{forward-none}
use Rattle.page_plan.proofs.Objects.{live-at, live_words-next}
use Rattle.page_plan.proofs.Ranks.{covered}
use Rattle.stopped_heap.specs.Collecting.{HasCollected}
use Rattle.rest_marks.specs.Places.{led_words}
use Rattle.rest_marks.specs.Reached.{AreReached, IsSound}
use Rattle.rest_slide.specs.Settled.{lowered, settled, settled_word, settled_words}
use Rattle.rest_marks.proofs.BitsBelow.{leads, live_fit, mark-new_index}
use Rattle.rest_slide.proofs.Settling.{lowered-plain, settled-all, settled-at, settled-immediate, settled-length, settled-lost, settled-null, settled-plain}
use Rattle.pinned_heap.specs.Around.{end_from, is_address_of, led_around, led_object, place_in, runs_from, IsSlidAround}
use Rattle.pinned_heap.specs.Collecting.{HasCollectedAround}
use Rattle.pinned_heap.specs.Pins.{places_from}
use Rattle.pinned_heap.specs.declared.run.Run.{Run}
use Rattle.pinned_heap.proofs.Linking.{address-marked, in-order, place-found}
use Rattle.pinned_heap.proofs.Placed.{unpinned}

-- nothing stays
abbrev nobody : ℕ → Bool
nobody i = false

end-plain : (next : ℕ) (objects : List Object) → end_from nobody next objects ≡ next + live_words objects
end-plain next [] = omega arith
end-plain next (object ∷ objects) =
    let rest = end-plain (next + size object) objects in
    let first = live_words-cons object objects in
    omega (arith, rest, first)

runs-plain : (next : ℕ) (objects : List Object) → runs_from nobody next objects ≡ []
runs-plain next [] = refl
runs-plain next (object ∷ objects) =
    let rest = runs_from nobody (next + size object) objects in
    let run : Run = record { start = next; end = next } in
    ap (λ (b : Bool). cond b rest (run ∷ rest)) (eq-eqb next next refl) ∙ runs-plain (next + size object) objects

module _ (heap : Heap) (sound : IsSound heap) where
  abbrev objects : List Object
  objects = live heap

  abbrev mark : ℕ → ℕ
  mark k = get_or heap.marks k 0

  abbrev size_at : ℕ → ℕ
  size_at k = size_of (header_at heap.edition heap.words (mark k))

  abbrev first : Object
  first = object_at heap.edition heap.words 0

  many : length objects ≡ length heap.marks
  many = length-map heap.marks (object_at heap.edition heap.words)

  -- the place of the k-th object
  place-plain : (k : ℕ) → k < length heap.marks → place_in nobody 0 objects (mark k) ≡ live_words (take k objects)
  place-plain k known =
      let lt : k < length objects = omega (arith, known, many) in
      let object = live-at heap.edition heap.words heap.marks k in
      let sums = unpinned 0 objects k lt in
      ap (λ (o : Object). place_in nobody 0 objects o.index) (sym object)
      ∙ place-found nobody 0 0 objects k first (in-order heap sound) lt
      ∙ omega (arith, sums)

  -- where the address of a live object leads
  led-target : (word : ℕ) → is_immediate heap.edition word ≡ false → list_any (λ mark. from_address mark == word) heap.marks ≡ true
      → from_address (place_in nobody 0 objects (word - 2 ^ 32)) ≡ settled_word heap.edition objects word
  led-target word plain some =
      let at = has-address heap.edition heap.words heap.marks word 0 some in
      let k = at.number in
      let index : word - 2 ^ 32 ≡ mark k = omega (arith, at.here) in
      let other : word ≢ 0 = λ same. omega (arith, at.here, same) in
      let target : IsTarget heap.marks word = or_right (word == 0) (list_any (λ mark. from_address mark == word) heap.marks) some in
      let below = live_below (live_indices objects) (word - 2 ^ 32) in
      let to = leads heap sound word target other (live_indices objects) refl below refl in
      let counted = mark-new_index heap sound k at.known (live_indices objects) refl (word - 2 ^ 32) index in
      let place = ap (place_in nobody 0 objects) index ∙ place-plain k at.known in
      let small : 2 ^ 33 + below < 2 ^ 63 = omega (arith, to.few) in
      let down : 2 ^ 33 + below - 2 ^ 32 ≡ 2 ^ 32 + below = omega arith in
      let here : from_address (place_in nobody 0 objects (word - 2 ^ 32)) ≡ 2 ^ 32 + below = omega (arith, place, counted) in
      here ∙ sym (settled-plain heap.edition objects word plain
      ∙ ap (λ (o : Option ℕ). lowered heap.edition (unwrap_or o 0)) to.to
      ∙ lowered-plain heap.edition (2 ^ 33 + below) small ∙ down)

  -- any other word
  led-lost : (word : ℕ) → is_immediate heap.edition word ≡ false → list_any (λ mark. from_address mark == word) heap.marks ≡ false → 0 ≡ settled_word heap.edition objects word
  led-lost word plain none = elim (cases_eq word 0) [
    | inl null ↦ sym (settled-null heap.edition objects) ∙ ap (settled_word heap.edition objects) (sym null)
    | inr other ↦
        let fails : is_target heap.marks word ≡ false =
        ap (λ (b : Bool). b || list_any (λ mark. from_address mark == word) heap.marks) (ne_eqb word 0 other) ∙ none in
        sym (settled-lost heap.edition objects word plain (forward-none heap.edition heap.words heap.marks word fails))
  ]

  led-same : (word : ℕ) → led_around heap.edition nobody objects word ≡ settled_word heap.edition objects word
  led-same word =
      let to = from_address (place_in nobody 0 objects (word - 2 ^ 32)) in
      let marked = address-marked heap.edition heap.words heap.marks word in
      elim (cases_Bool (is_immediate heap.edition word)) [
        | inl is ↦ ap (λ (b : Bool). cond b word (cond (is_address_of objects word) to 0)) is ∙ sym (settled-immediate heap.edition objects word is)
        | inr plain ↦ ap (λ (b : Bool). cond b word (cond (is_address_of objects word) to 0)) plain
            ∙ elim (cases_Bool (is_address_of objects word)) [
              | inl is ↦ ap (λ (b : Bool). cond b to 0) is ∙ led-target word plain (sym marked ∙ is)
              | inr fails ↦ ap (λ (b : Bool). cond b to 0) fails ∙ led-lost word plain (sym marked ∙ fails)
            ]
      ]

  all-same : led_around heap.edition nobody objects ≡ settled_word heap.edition objects
  all-same = fun_ext led-same

  object-same : (k : ℕ) → led_object nobody heap k ≡ settled objects (object_at heap.edition heap.words (mark k))
  object-same k = ap (λ (f : ℕ → ℕ). led_words f (object_at heap.edition heap.words (mark k))) all-same

  -- word f of the k-th object
  word-same : (after : List ℕ) → IsSlidAround heap nobody after → (k f : ℕ) → k < length heap.marks → f < size_at k
      → get_or after (live_words (take k objects) + f) 0 ≡ get_or (settled_words objects) (live_words (take k objects) + f) 0
  word-same after slid k f known inside =
      let own = led_object nobody heap k in
      let place = get_or (places_from nobody 0 objects) k 0 in
      let sums = unpinned 0 objects k (omega (arith, known, many)) in
      let at : live_words (take k objects) ≡ place = omega (arith, sums) in
      let placed = sound.placed k 0 known in
      let long = ap length (object-same k) ∙ settled-length heap.edition objects heap.words (mark k) placed in
      ap (λ (n : ℕ). get_or after (n + f) 0) at
      ∙ sym (get_or-drop place after f 0)
      ∙ sym (get_or-take (length own) (drop place after) f 0 (omega (arith, long, inside)))
      ∙ ap (λ (xs : List ℕ). get_or xs f 0) (slid.objects k known)
      ∙ ap (λ (xs : List ℕ). get_or xs f 0) (object-same k)
      ∙ sym (settled-at heap sound k f known inside)

  -- all words
  words-same : (after : List ℕ) (end : ℕ) → IsSlidAround heap nobody after → end ≡ end_from nobody 0 objects → after ≡ settled_words objects ++ drop end heap.words
  words-same after end slid last =
      let all = settled_words objects in
      let many_words = settled-all heap sound in
      let plain = end-plain 0 objects in
      let end_is : end ≡ live_words objects = omega (arith, last, plain) in
      let fit = live_fit heap sound in
      let both = length-append all (drop end heap.words) in
      let left = length-drop end heap.words in
      same_number_lists after (all ++ drop end heap.words) (omega (arith, slid.long, both, left, many_words, fit, end_is)) (λ n lt.
      elim (cases_lt n (live_words objects)) [
        | inl low ↦
            let at = covered objects n low in
            let k = at.0 in
            let known : k < length heap.marks = omega (arith, at.1.known, many) in
            let own = live_words-next heap.edition heap.words heap.marks k known in
            let f = n - live_words (take k objects) in
            let index : live_words (take k objects) + f ≡ n = omega (arith, at.1.begun) in
            ap (λ (m : ℕ). get_or after m 0) (sym index)
            ∙ word-same after slid k f known (omega (arith, at.1.ends, own, at.1.begun))
            ∙ ap (λ (m : ℕ). get_or all m 0) index
            ∙ sym (get_or_append_left all (drop end heap.words) 0 n (omega (arith, low, many_words)))
        | inr high ↦
            let rest = n - live_words objects in
            let index : end_from nobody 0 objects + rest ≡ n = omega (arith, high, end_is, last) in
            let same : end_from nobody 0 objects ≡ end = omega (arith, last) in
            ap (λ (m : ℕ). get_or after m 0) (sym index)
            ∙ sym (get_or-drop (end_from nobody 0 objects) after rest 0)
            ∙ ap (λ (xs : List ℕ). get_or xs rest 0) slid.behind
            ∙ ap (λ (m : ℕ). get_or (drop m heap.words) rest 0) same
            ∙ sym (get_or-append_right all (drop end heap.words) (live_words objects) n 0 many_words (omega (arith, high)))
      ])

pub collected-in_place : (edition : Edition) (words roots new_roots after : List ℕ) (end : ℕ) (runs : List Run) → HasCollectedAround edition words roots [] end runs new_roots after
    → HasCollected edition words roots end new_roots words after × (runs ≡ [])
collected-in_place edition words roots new_roots after end runs (marks, reached, is) =
    let heap : Heap = record { edition = edition; words = words; marks = marks; roots = roots } in
    let plain = end-plain 0 (live heap) in (
      (
        marks,
        subst (λ (from : List ℕ). AreReached edition words from marks) (append-nil roots) reached,
        record {
          sound = is.sound;
          live = omega (arith, is.end_is, plain);
          words = words-same heap is.sound after end is.slid is.end_is;
          roots_are = is.roots_are ∙ ap (λ (f : ℕ → ℕ). map f roots) (all-same heap is.sound);
        },
      ),
      is.runs_are ∙ runs-plain 0 (live heap),
    )
