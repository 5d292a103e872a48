-- The words of live objects after the collection.
use Rattle.std.proofs.Common.{◌≡◌, ◌≢◌, ℕ, zero, suc, ◌+◌, ◌-◌, ◌*◌, ◌^◌, ◌<◌, ◌≤◌, ◌==◌, ◌||◌, Bool, true, false, cond, leb, Option, Some, None, List, ◌∷◌, ◌++◌, length, get_or, take, drop, map, inl, inr, refl, sym, ap, subst, ◌∙◌, arith, drop-drop}
use Rattle.std.specs.Prelude.{unwrap_or}
use Rattle.std.specs.List.{list_any, flat_map}
use Rattle.std.specs.Option.{option_map}
use Rattle.std.proofs.Math.Seq.{take-add}
use Rattle.std.proofs.lemmas.Bool.{cases_Bool, cases_eq, ne_eqb, or_right, and_parts, both_ways, leb-true}
use Rattle.std.proofs.lemmas.List.{length-map, map-append, take_all}
use Rattle.std.proofs.lemmas.List.Concat.{get_or-flat_map}
use Rattle.heap_layout.specs.declared.edition.Edition.{Edition}
use Rattle.heap_layout.specs.Bits.{bit}
use Rattle.heap_layout.specs.Header.{refs_of, weak_of, data_of, size_of}
use Rattle.heap_layout.specs.Heap.{Heap, Object, header_at, object_at, live, from_address, is_target, IsPlaced, IsTarget, IsValue}
use Rattle.heap_layout.specs.Values.{is_immediate}
use Rattle.heap_layout.proofs.Values.{no-immediate, value-cases}
use Rattle.rest_marks.specs.Reached.{IsSound}
use Rattle.mark_tables.specs.MarkBitmap.{set_bits}
use Rattle.mark_tables.specs.LiveWords.{live_below}
use Rattle.page_plan.specs.Sliding.{size, live_words, forward, forward_value}
use Rattle.page_plan.proofs.Marks.{has-address}
use Rattle.rest_marks.proofs.BitsBelow.{leads as target-leads}
use Rattle.page_plan.proofs.NewAddresses.{forward-none}
use Rattle.page_plan.proofs.Objects.{length-parts, at-reference, at-data, length-pieces, live-at}
use Rattle.reachability.specs.Queue.{is_address}
use Rattle.rest_marks.specs.Looking.{led_to, kept_by}
use Rattle.rest_slide.specs.Settled.{lowered, settled_word, settled, settled_words}
use Rattle.rest_marks.specs.Surveys.{marks_of, told, AreTables}
use Rattle.rest_marks.proofs.Bounding.{bit-inside}
use Rattle.rest_marks.proofs.Heads.{heads-lead, mark-set}

-- ---- one object

-- the references and weak words of an object are a range of the from-space words
settled-fields : (edition : Edition) (objects : List Object) (words : List ℕ) (i : ℕ)
    → map (settled_word edition objects) (object_at edition words i).references ++ map (settled_word edition objects) (object_at edition words i).weak
    ≡ map (settled_word edition objects) (take (refs_of (header_at edition words i) + weak_of (header_at edition words i)) (drop (i + 1) words))
settled-fields edition objects words i =
    let h = header_at edition words i in
    let g = settled_word edition objects in
    let behind = drop (i + 1) words in
    let dropped : drop (refs_of h) behind ≡ drop (i + 1 + refs_of h) words = drop-drop (refs_of h) (i + 1) words in
    let whole : take (refs_of h + weak_of h) behind ≡ take (refs_of h) behind ++ take (weak_of h) (drop (i + 1 + refs_of h) words) =
    take-add (refs_of h) (weak_of h) behind ∙ ap (λ (xs : List ℕ). take (refs_of h) behind ++ take (weak_of h) xs) dropped in
    sym (ap (map g) whole ∙ map-append g (take (refs_of h) behind) (take (weak_of h) (drop (i + 1 + refs_of h) words)))

-- its words are its header, that range settled, and its data words
settled-parts : (edition : Edition) (objects : List Object) (words : List ℕ) (i : ℕ)
    → settled objects (object_at edition words i)
    ≡ get_or words i 0 ∷ (map (settled_word edition objects) (take (refs_of (header_at edition words i) + weak_of (header_at edition words i)) (drop (i + 1) words))
    ++ take (data_of (header_at edition words i)) (drop (i + 1 + (refs_of (header_at edition words i) + weak_of (header_at edition words i))) words))
settled-parts edition objects words i =
    let h = header_at edition words i in
    let at : i + 1 + refs_of h + weak_of h ≡ i + 1 + (refs_of h + weak_of h) = omega arith in
    ap (λ (xs : List ℕ). h.word ∷ (xs ++ (object_at edition words i).data_words)) (settled-fields edition objects words i)
    ∙ ap (λ (n : ℕ). h.word ∷ (map (settled_word edition objects) (take (refs_of h + weak_of h) (drop (i + 1) words)) ++ take (data_of h) (drop n words))) at

-- it is as long as before
pub settled-length : (edition : Edition) (objects : List Object) (words : List ℕ) (i : ℕ) → IsPlaced edition words i
    → length (settled objects (object_at edition words i)) ≡ size_of (header_at edition words i)
settled-length edition objects words i placed =
    let h = header_at edition words i in
    let within : i + (1 + (refs_of h + weak_of h) + data_of h) ≤ length words = omega (arith, placed.within) in
    ap length (settled-parts edition objects words i) ∙ omega (arith, length-parts words (settled_word edition objects) i (refs_of h + weak_of h) (data_of h) within)

-- its references and weak words
pub settled-refers : (edition : Edition) (objects : List Object) (words : List ℕ) (i f : ℕ) → IsPlaced edition words i → 1 ≤ f
    → f ≤ refs_of (header_at edition words i) + weak_of (header_at edition words i)
    → get_or (settled objects (object_at edition words i)) f 0 ≡ settled_word edition objects (get_or words (i + f) 0)
settled-refers edition objects words i zero placed positive le = absurd (omega arith)
settled-refers edition objects words i (suc n) placed positive le =
    let h = header_at edition words i in
    let within : i + (1 + (refs_of h + weak_of h) + data_of h) ≤ length words = omega (arith, placed.within) in
    let place : i + 1 + n ≡ i + suc n = omega arith in
    ap (λ (xs : List ℕ). get_or xs (suc n) 0) (settled-parts edition objects words i)
    ∙ at-reference words (settled_word edition objects) i (refs_of h + weak_of h) (data_of h) n within (omega (arith, le))
    ∙ ap (λ (m : ℕ). settled_word edition objects (get_or words m 0)) place

-- its header
pub settled-header : (edition : Edition) (objects : List Object) (words : List ℕ) (i : ℕ) → get_or (settled objects (object_at edition words i)) 0 0 ≡ get_or words i 0
settled-header edition objects words i = ap (λ (xs : List ℕ). get_or xs 0 0) (settled-parts edition objects words i)

-- and its data words
pub settled-data : (edition : Edition) (objects : List Object) (words : List ℕ) (i f : ℕ) → IsPlaced edition words i
    → 1 + refs_of (header_at edition words i) + weak_of (header_at edition words i) ≤ f → f < size_of (header_at edition words i)
    → get_or (settled objects (object_at edition words i)) f 0 ≡ get_or words (i + f) 0
settled-data edition objects words i zero placed above lt = absurd (omega arith)
settled-data edition objects words i (suc n) placed above lt =
    let h = header_at edition words i in
    let within : i + (1 + (refs_of h + weak_of h) + data_of h) ≤ length words = omega (arith, placed.within) in
    let place : i + 1 + n ≡ i + suc n = omega arith in
    ap (λ (xs : List ℕ). get_or xs (suc n) 0) (settled-parts edition objects words i)
    ∙ at-data words (settled_word edition objects) i (refs_of h + weak_of h) (data_of h) n within (omega (arith, above)) (omega (arith, lt))
    ∙ ap (λ (m : ℕ). get_or words m 0) place

-- ---- all objects

-- how many words the first k live objects have
settled-below : (heap : Heap) → IsSound heap → (k : ℕ) → k ≤ length (live heap) → length (flat_map (settled (live heap)) (take k (live heap))) ≡ live_words (take k (live heap))
settled-below heap sound k le =
    let objects = live heap in
    let first = object_at heap.edition heap.words 0 in
    let each : (n : ℕ) → n < length objects → length (settled objects (get_or objects n first)) ≡ size (get_or objects n first) =
    λ n lt. subst (λ (o : Object). length (settled objects o) ≡ size o) (sym (live-at heap.edition heap.words heap.marks n))
    (settled-length heap.edition objects heap.words (get_or heap.marks n 0) (sound.placed n 0 (omega (arith, lt, length-map heap.marks (object_at heap.edition heap.words))))) in
    length-pieces (settled objects) size objects k first each le

-- word f of the k-th live object
pub settled-at : (heap : Heap) → IsSound heap → (k f : ℕ) → k < length heap.marks → f < size_of (header_at heap.edition heap.words (get_or heap.marks k 0))
    → get_or (settled_words (live heap)) (live_words (take k (live heap)) + f) 0 ≡ get_or (settled (live heap) (object_at heap.edition heap.words (get_or heap.marks k 0))) f 0
settled-at heap sound k f lt inside =
    let objects = live heap in
    let object = live-at heap.edition heap.words heap.marks k in
    let long : length objects ≡ length heap.marks = length-map heap.marks (object_at heap.edition heap.words) in
    let size_kept = settled-length heap.edition objects heap.words (get_or heap.marks k 0) (sound.placed k 0 lt) in
    let below : length (flat_map (settled objects) (take k objects)) ≡ live_words (take k objects) = settled-below heap sound k (omega (arith, lt, long)) in
    ap (λ (n : ℕ). get_or (settled_words objects) (n + f) 0) (sym below)
    ∙ get_or-flat_map (settled objects) objects k f (object_at heap.edition heap.words 0) 0 (omega (arith, lt, long)) (subst (λ (o : Object). f < length (settled objects o)) (sym object) (omega (arith, size_kept, inside)))
    ∙ ap (λ (o : Object). get_or (settled objects o) f 0) object

-- there are as many as live words
pub settled-all : (heap : Heap) → IsSound heap → length (settled_words (live heap)) ≡ live_words (live heap)
settled-all heap sound =
    let all : take (length (live heap)) (live heap) ≡ live heap = take_all (length (live heap)) (live heap) (omega arith) in
    rw all at (settled-below heap sound (length (live heap)) (omega arith))

-- ---- one word

-- a small number is no immediate
pub is-plain : (edition : Edition) (word : ℕ) → word < 2 ^ 63 → is_immediate edition word ≡ false
is-plain edition word small = elim (cases_Bool (is_immediate edition word)) [
  | inl is ↦ absurd (no-immediate edition word small is)
  | inr plain ↦ plain
]

-- so it is lowered
pub lowered-plain : (edition : Edition) (word : ℕ) → word < 2 ^ 63 → lowered edition word ≡ word - 2 ^ 32
lowered-plain edition word small = ap (λ (b : Bool). cond b word (word - 2 ^ 32)) (is-plain edition word small)

-- an immediate stays
pub settled-immediate : (edition : Edition) (objects : List Object) (word : ℕ) → is_immediate edition word ≡ true → settled_word edition objects word ≡ word
settled-immediate edition objects word is =
    ap (λ (b : Bool). lowered edition (unwrap_or (cond b (Some word) (forward objects word)) 0)) is ∙ ap (λ (b : Bool). cond b word (word - 2 ^ 32)) is

-- any other word is forwarded and lowered
pub settled-plain : (edition : Edition) (objects : List Object) (word : ℕ) → is_immediate edition word ≡ false
    → settled_word edition objects word ≡ lowered edition (unwrap_or (forward objects word) 0)
settled-plain edition objects word plain = ap (λ (b : Bool). lowered edition (unwrap_or (cond b (Some word) (forward objects word)) 0)) plain

-- null stays null, and so does a word with no forwarding address
pub settled-null : (edition : Edition) (objects : List Object) → settled_word edition objects 0 ≡ 0
settled-null edition objects = settled-plain edition objects 0 (is-plain edition 0 (omega arith)) ∙ lowered-plain edition 0 (omega arith)

pub settled-lost : (edition : Edition) (objects : List Object) (word : ℕ) → is_immediate edition word ≡ false → forward objects word ≡ None → settled_word edition objects word ≡ 0
settled-lost edition objects word plain none =
    settled-plain edition objects word plain ∙ ap (λ (o : Option ℕ). lowered edition (unwrap_or o 0)) none ∙ lowered-plain edition 0 (omega arith)

module _ (edition : Edition) (words heads bits counts : List ℕ) (tables : AreTables edition words heads bits counts) where
  abbrev heap : Heap
  heap = told edition words heads

  abbrev below : ℕ → ℕ
  below word = live_below (set_bits bits) (word - 2 ^ 32)

  -- the address of a live object has a forwarding address, which is lowered
  lowered-below : (word : ℕ) → IsTarget (marks_of heads) word → word ≢ 0
      → (forward (live heap) word ≡ Some (2 ^ 33 + below word)) × (lowered edition (2 ^ 33 + below word) ≡ 2 ^ 32 + below word)
  lowered-below word target other =
      let leads_to = target-leads heap tables.sound word target other (set_bits bits) tables.indices (below word) refl in
      let small : 2 ^ 33 + below word < 2 ^ 63 = omega (arith, leads_to.few) in
      let down : 2 ^ 33 + below word - 2 ^ 32 ≡ 2 ^ 32 + below word = omega arith in
      (leads_to.to, lowered-plain edition (2 ^ 33 + below word) small ∙ down)

  -- the address of a live object
  led : (word : ℕ) → is_immediate edition word ≡ false → IsTarget (marks_of heads) word → word ≢ 0 → 2 ^ 32 + below word ≡ settled_word edition (live heap) word
  led word plain target other =
      let to = lowered-below word target other in
      sym (settled-plain edition (live heap) word plain ∙ ap (λ (o : Option ℕ). lowered edition (unwrap_or o 0)) to.0 ∙ to.1)

  -- a reference
  pub led-settled : (word : ℕ) → IsValue edition (marks_of heads) word → led_to edition (set_bits bits) word ≡ settled_word edition (live heap) word
  led-settled word value = elim (cases_Bool (is_immediate edition word)) [
    | inl is ↦ ap (λ (b : Bool). cond b word (cond (word == 0) 0 (2 ^ 32 + below word))) is ∙ sym (settled-immediate edition (live heap) word is)
    | inr plain ↦ ap (λ (b : Bool). cond b word (cond (word == 0) 0 (2 ^ 32 + below word))) plain ∙ elim (value-cases edition (marks_of heads) word value) [
      | inl immediate ↦ absurd (both_ways (is_immediate edition word) plain immediate)
      | inr target ↦ elim (cases_eq word 0) [
        | inl zero_word ↦ ap (λ (w : ℕ). cond (w == 0) 0 (2 ^ 32 + below w)) zero_word ∙ sym (settled-null edition (live heap)) ∙ ap (settled_word edition (live heap)) (sym zero_word)
        | inr other ↦ ap (λ (b : Bool). cond b 0 (2 ^ 32 + below word)) (ne_eqb word 0 other) ∙ led word plain target other
      ]
    ]
  ]

  -- a word that is the address of a live object is a target
  address-target : (word : ℕ) → is_address (bit heads) word ≡ true → (word ≢ 0) × IsTarget (marks_of heads) word
  address-target word is =
      let above = leb-true (2 ^ 32) word (and_parts (leb (2 ^ 32) word) (bit heads (word - 2 ^ 32)) is).0 in
      (λ same. omega (arith, above, same), ap (λ (test : ℕ → Bool). test word) (sym (heads-lead heads)) ∙ or_right (word == 0) (is_address (bit heads) word) is)

  -- a word that is neither null nor such an address has no forwarding address
  address-lost : (word : ℕ) → word ≢ 0 → is_address (bit heads) word ≡ false → forward (live heap) word ≡ None
  address-lost word other fails =
      let told_by = ap (λ (test : ℕ → Bool). test word) (heads-lead heads) in
      let not_target : is_target (marks_of heads) word ≡ false =
      sym told_by ∙ ap (λ (b : Bool). b || is_address (bit heads) word) (ne_eqb word 0 other) ∙ fails in
      forward-none edition words (marks_of heads) word not_target

  -- a root or a weak word
  pub kept-settled : (word : ℕ) → kept_by edition heads (set_bits bits) word ≡ settled_word edition (live heap) word
  kept-settled word = elim (cases_Bool (is_immediate edition word)) [
    | inl is ↦ ap (λ (b : Bool). cond b word (cond (is_address (bit heads) word) (2 ^ 32 + below word) 0)) is ∙ sym (settled-immediate edition (live heap) word is)
    | inr plain ↦ ap (λ (b : Bool). cond b word (cond (is_address (bit heads) word) (2 ^ 32 + below word) 0)) plain ∙ elim (cases_Bool (is_address (bit heads) word)) [
      | inl is ↦
          let at = address-target word is in
          ap (λ (b : Bool). cond b (2 ^ 32 + below word) 0) is ∙ led word plain at.1 at.0
      | inr fails ↦ ap (λ (b : Bool). cond b (2 ^ 32 + below word) 0) fails ∙ elim (cases_eq word 0) [
        | inl zero_word ↦ sym (settled-null edition (live heap)) ∙ ap (settled_word edition (live heap)) (sym zero_word)
        | inr other ↦ sym (settled-lost edition (live heap) word plain (address-lost word other fails))
      ]
    ]
  ]

  -- a reference that is no immediate has a place among the bits
  pub target-known : (word : ℕ) → IsValue edition (marks_of heads) word → is_immediate edition word ≡ false → 0 < length bits → word - 2 ^ 32 < 64 * length bits
  target-known word value plain some = elim (value-cases edition (marks_of heads) word value) [
    | inl immediate ↦ absurd (both_ways (is_immediate edition word) plain immediate)
    | inr target ↦ elim (cases_eq word 0) [
      | inl zero_word ↦ omega (arith, zero_word, some)
      | inr other ↦
          let any : list_any (λ mark. from_address mark == word) (marks_of heads) ≡ true =
          sym (ap (λ (b : Bool). b || list_any (λ mark. from_address mark == word) (marks_of heads)) (ne_eqb word 0 other)) ∙ target in
          let at = has-address edition words (marks_of heads) word 0 any in
          let inside = bit-inside heads (get_or (marks_of heads) at.number 0) (mark-set heads at.number at.known) in
          omega (arith, at.here, inside, tables.same)
    ]
  ]

  -- where a word leads, if it leads to a live object
  pub forward-found : (word : ℕ) → is_immediate edition word ≡ false → is_address (bit heads) word ≡ true
      → Some (2 ^ 32 + below word) ≡ option_map (lowered edition) (forward_value edition (live heap) word)
  forward-found word plain is =
      let at = address-target word is in
      let to = lowered-below word at.1 at.0 in
      sym (ap (λ (b : Bool). option_map (lowered edition) (cond b (Some word) (forward (live heap) word))) plain
      ∙ ap (option_map (lowered edition)) to.0 ∙ ap (λ (n : ℕ). Some n) to.1)

  -- and otherwise
  pub forward-lost : (word : ℕ) → is_immediate edition word ≡ false → word ≢ 0 → is_address (bit heads) word ≡ false
      → None ≡ option_map (lowered edition) (forward_value edition (live heap) word)
  forward-lost word plain other fails =
      sym (ap (λ (b : Bool). option_map (lowered edition) (cond b (Some word) (forward (live heap) word))) plain
      ∙ ap (option_map (lowered edition)) (address-lost word other fails))
