-- The live words below a marked object of a sound heap.
-- These are the lemmas of mark_tables and page_plan of accepted heaps, of which only that the marked objects are placed
-- and lie apart is asked here.
use Rattle.std.proofs.Common.{◌≡◌, ◌≢◌, ℕ, zero, suc, ◌+◌, ◌-◌, ◌^◌, ◌<◌, ◌≤◌, Bool, true, false, cond, eqb, ◌==◌, ◌||◌, Some, List, [], ◌∷◌, ◌++◌, length, get_or, take, drop, map, refl, sym, ap, ◌∙◌, arith, length-take, length-drop}
use Rattle.std.specs.List.{list_any, range_with_len}
use Rattle.std.specs.Option.{option_map}
use Rattle.std.proofs.lemmas.Bool.{lt-ltb, le-ltb, ne_eqb}
use Rattle.std.proofs.lemmas.List.{get_or-take, get_or-drop}
use Rattle.std.proofs.lemmas.List.Sums.{sum_by-append, sum_by-cons, sum_by-take-le}
use Rattle.heap_layout.specs.Header.{refs_of, size_of}
use Rattle.heap_layout.specs.declared.edition.Edition.{Edition}
use Rattle.heap_layout.specs.Heap.{Heap, header_at, object_at, live, from_address, IsTarget, IsValue}
use Rattle.heap_layout.proofs.Bounds.{words_most}
use Rattle.mark_tables.specs.LiveWords.{live_indices, live_below, size}
use Rattle.mark_tables.proofs.Sizes.{live_words-next, live_words-all}
use Rattle.page_plan.specs.Sliding.{live_words, new_address, number_of, forward}
use Rattle.page_plan.proofs.Marks.{has-address}
use Rattle.rest_marks.specs.Reached.{IsSound}

-- The live words are no more than the words: the live objects lie apart.
module _ (heap : Heap) (sound : IsSound heap) where
  abbrev mark : ℕ → ℕ
  mark k = get_or heap.marks k 0

  abbrev size_at : ℕ → ℕ
  size_at k = size_of (header_at heap.edition heap.words (mark k))

  -- those below a mark are no more than the words below it
  pub words-below : (k : ℕ) → k < length heap.marks → live_words (take k (live heap)) ≤ mark k
  words-below zero lt = omega arith
  words-below (suc k) lt =
      let one : suc k ≡ k + 1 = omega arith in
      let low : k < length heap.marks = omega (arith, lt) in
      let more = live_words-next heap.edition heap.words heap.marks k low in
      let apart = sound.apart k (omega (arith, lt)) in
      rw one (omega (arith, more, words-below k low, apart))

  live_by : (n : ℕ) → length heap.marks ≡ n → live_words (live heap) ≤ length heap.words
  live_by zero none =
      let all = live_words-all heap.edition heap.words heap.marks 0 (omega (arith, none)) in
      omega (arith, all)
  live_by (suc n) many =
      let last : n < length heap.marks = omega (arith, many) in
      let more = live_words-next heap.edition heap.words heap.marks n last in
      let all = live_words-all heap.edition heap.words heap.marks (n + 1) (omega (arith, many)) in
      let placed = (sound.placed n 0 last).within in
      omega (arith, more, all, words-below n last, placed)

  pub live_fit : live_words (live heap) ≤ length heap.words
  live_fit = live_by (length heap.marks) refl

-- there are few live words
pub live_words-few : (heap : Heap) → IsSound heap → live_words (live heap) ≤ 2 ^ 31
live_words-few heap sound = omega (arith, live_fit heap sound, sound.few_words, words_most heap.edition)

pub live_words-part : (heap : Heap) → IsSound heap → (k : ℕ) → live_words (take k (live heap)) ≤ 2 ^ 31
live_words-part heap sound k = omega (arith, sum_by-take-le size (live heap) k, live_words-few heap sound)

-- each marked object starts at or after the end of the one before it, and the first one at or after `low`
abbrev pub Rising : Edition → List ℕ → ℕ → List ℕ → Type 0
Rising edition words low [] = Unit {0}
Rising edition words low (mark ∷ marks) = (low ≤ mark) × Rising edition words (mark + size_of (header_at edition words mark)) marks

rising-from : (edition : Edition) (words : List ℕ) (low : ℕ) (marks : List ℕ) → (0 < length marks → low ≤ get_or marks 0 0)
    → ((k : ℕ) → suc k < length marks → get_or marks k 0 + size_of (header_at edition words (get_or marks k 0)) ≤ get_or marks (suc k) 0)
    → Rising edition words low marks
rising-from edition words low [] first apart = tt
rising-from edition words low (mark ∷ marks) first apart =
    (first (omega arith), rising-from edition words (mark + size_of (header_at edition words mark)) marks (λ some. apart 0 (omega arith)) (λ k lt. apart (suc k) (omega arith)))

-- the marks of a sound heap rise
rising : (heap : Heap) → IsSound heap → Rising heap.edition heap.words 0 heap.marks
rising heap sound =
    rising-from heap.edition heap.words 0 heap.marks (λ some. omega arith)
    (λ k lt. let e : suc k ≡ k + 1 = omega arith in rw e (sound.apart k (omega arith)))

-- no mark is below `low`
low-mark : (edition : Edition) (words : List ℕ) (low : ℕ) (marks : List ℕ) (k : ℕ) → Rising edition words low marks → k < length marks → low ≤ get_or marks k 0
low-mark edition words low [] k rises lt = absurd (omega arith)
low-mark edition words low (mark ∷ marks) zero rises lt = rises.0
low-mark edition words low (mark ∷ marks) (suc k) rises lt =
    omega (arith, rises.0, low-mark edition words (mark + size_of (header_at edition words mark)) marks k rises.1 (omega arith))

-- no number of a range is below its start
range-none : (a n i : ℕ) → i ≤ a → live_below (range_with_len a n) i ≡ 0
range-none a zero i le = refl
range-none a (suc n) i le =
    sum_by-cons _ a (range_with_len (a + 1) n)
    ∙ ap (λ (b : Bool). cond b 1 0 + live_below (range_with_len (a + 1) n) i) (le-ltb a i le)
    ∙ omega (arith, range-none (a + 1) n i (omega arith))

-- all numbers of a range are below its end
range-all : (a n i : ℕ) → a + n ≤ i → live_below (range_with_len a n) i ≡ n
range-all a zero i le = refl
range-all a (suc n) i le =
    sum_by-cons _ a (range_with_len (a + 1) n)
    ∙ ap (λ (b : Bool). cond b 1 0 + live_below (range_with_len (a + 1) n) i) (lt-ltb a i (omega arith))
    ∙ omega (arith, range-all (a + 1) n i (omega arith))

-- w numbers of a range are below the number w after its start
range-part : (a n w : ℕ) → w ≤ n → live_below (range_with_len a n) (a + w) ≡ w
range-part a n zero le = range-none a n (a + 0) (omega arith)
range-part a zero (suc w) le = absurd (omega (arith, le))
range-part a (suc n) (suc w) le =
    let next : a + suc w ≡ (a + 1) + w = omega arith in
    sum_by-cons _ a (range_with_len (a + 1) n)
    ∙ ap (λ (b : Bool). cond b 1 0 + live_below (range_with_len (a + 1) n) (a + suc w)) (lt-ltb a (a + suc w) (omega arith))
    ∙ ap (λ (i : ℕ). 1 + live_below (range_with_len (a + 1) n) i) next
    ∙ omega (arith, range-part (a + 1) n w (omega (arith, le)))

-- no live word is below `low`
below-none : (edition : Edition) (words : List ℕ) (low : ℕ) (marks : List ℕ) (i : ℕ) → Rising edition words low marks → i ≤ low → live_below (live_indices (map (object_at edition words) marks)) i ≡ 0
below-none edition words low [] i rises le = refl
below-none edition words low (mark ∷ marks) i rises le =
    let own = size_of (header_at edition words mark) in
    let behind = live_indices (map (object_at edition words) marks) in
    let both : live_below (range_with_len mark own ++ behind) i ≡ live_below (range_with_len mark own) i + live_below behind i = sum_by-append _ (range_with_len mark own) behind in
    both ∙ omega (arith, range-none mark own i (omega (arith, rises.0)), below-none edition words (mark + own) marks i rises.1 (omega (arith, rises.0)))

-- the words below a word of a marked object: those of the objects before it, and its own before that word
below-word : (edition : Edition) (words : List ℕ) (low : ℕ) (marks : List ℕ) (k w : ℕ) → Rising edition words low marks → k < length marks
    → w < size_of (header_at edition words (get_or marks k 0))
    → live_below (live_indices (map (object_at edition words) marks)) (get_or marks k 0 + w) ≡ live_words (take k (map (object_at edition words) marks)) + w
below-word edition words low [] k w rises lt inside = absurd (omega arith)
below-word edition words low (mark ∷ marks) zero w rises lt inside =
    let own = size_of (header_at edition words mark) in
    let behind = live_indices (map (object_at edition words) marks) in
    let both : live_below (range_with_len mark own ++ behind) (mark + w) ≡ live_below (range_with_len mark own) (mark + w) + live_below behind (mark + w) = sum_by-append _ (range_with_len mark own) behind in
    both ∙ omega (arith, range-part mark own w (omega (arith, inside)), below-none edition words (mark + own) marks (mark + w) rises.1 (omega (arith, inside)))
below-word edition words low (mark ∷ marks) (suc k) w rises lt inside =
    let own = size_of (header_at edition words mark) in
    let objects = map (object_at edition words) marks in
    let i = get_or marks k 0 + w in
    let both : live_below (range_with_len mark own ++ live_indices objects) i ≡ live_below (range_with_len mark own) i + live_below (live_indices objects) i = sum_by-append _ (range_with_len mark own) (live_indices objects) in
    let behind : mark + own ≤ i = omega (arith, low-mark edition words (mark + own) marks k rises.1 (omega arith)) in
    let first : live_below (range_with_len mark own) i ≡ own = range-all mark own i behind in
    let others = below-word edition words (mark + own) marks k w rises.1 (omega arith) inside in
    let sum : live_words (object_at edition words mark ∷ take k objects) ≡ own + live_words (take k objects) = sum_by-cons size (object_at edition words mark) (take k objects) in
    both ∙ omega (arith, first, others, sum)

-- the words below a marked object are those of the objects before it
below-mark : (heap : Heap) → IsSound heap → (k : ℕ) → k < length heap.marks → live_below (live_indices (live heap)) (get_or heap.marks k 0) ≡ live_words (take k (live heap))
below-mark heap sound k lt =
    let indices = live_indices (live heap) in
    let first : get_or heap.marks k 0 + 0 ≡ get_or heap.marks k 0 = omega arith in
    omega (arith, ap (live_below indices) first, below-word heap.edition heap.words 0 heap.marks k 0 (rising heap sound) lt (omega arith))

-- what the tables count below a mark
pub mark-new_index : (heap : Heap) → IsSound heap → (k : ℕ) → k < length heap.marks → (indices : List ℕ) → indices ≡ live_indices (live heap) → (mark : ℕ) → mark ≡ get_or heap.marks k 0
    → live_below indices mark ≡ live_words (take k (live heap))
mark-new_index heap sound k lt indices same mark at =
    ap (λ (xs : List ℕ). live_below xs mark) same ∙ ap (live_below (live_indices (live heap))) at ∙ below-mark heap sound k lt

-- the forwarding address of a target, by the number of live words below it
pub record Leads (heap : Heap) (reference below : ℕ) : Type 0 where
  pub above : 2 ^ 32 ≤ reference
  pub few : below ≤ 2 ^ 31
  pub to : forward (live heap) reference ≡ Some (2 ^ 33 + below)

-- the forwarding address of a target follows the live words below it
pub leads : (heap : Heap) → IsSound heap → (reference : ℕ) → IsTarget heap.marks reference → reference ≢ 0
    → (indices : List ℕ) → indices ≡ live_indices (live heap) → (below : ℕ) → below ≡ live_below indices (reference - 2 ^ 32) → Leads heap reference below
leads heap sound reference target other indices same below counted =
    let null : eqb reference 0 ≡ false = ne_eqb reference 0 other in
    let some : list_any (λ mark. from_address mark == reference) heap.marks ≡ true =
    sym (ap (λ (b : Bool). b || list_any (λ m. from_address m == reference) heap.marks) null) ∙ target in
    let object = has-address heap.edition heap.words heap.marks reference 0 some in
    let k = object.number in
    let index : reference - 2 ^ 32 ≡ get_or heap.marks k 0 = omega (arith, object.here) in
    let is : below ≡ live_words (take k (live heap)) =
    counted ∙ mark-new_index heap sound k object.known indices same (reference - 2 ^ 32) index in
    let zero_first : 0 + k ≡ k = omega arith in
    let to : forward (live heap) reference ≡ Some (new_address (live heap) k) =
    ap (λ (b : Bool). cond b (Some 0) (option_map (new_address (live heap)) (number_of (live heap) reference))) null
    ∙ ap (option_map (new_address (live heap))) object.found
    ∙ ap (λ (n : ℕ). Some (new_address (live heap) n)) zero_first in
    record {
      above = omega (arith, object.here);
      few = omega (arith, is, live_words-part heap sound k);
      to = to ∙ ap (λ (n : ℕ). Some (2 ^ 33 + n)) (sym is);
    }

-- each reference of a live object is an immediate or a target
pub reference-value : (heap : Heap) → IsSound heap → (k f : ℕ) → k < length heap.marks → 1 ≤ f → f ≤ refs_of (header_at heap.edition heap.words (get_or heap.marks k 0))
    → IsValue heap.edition heap.marks (get_or heap.words (get_or heap.marks k 0 + f) 0)
reference-value heap sound k zero lt positive le = absurd (omega arith)
reference-value heap sound k (suc f) lt positive le =
    let mark = get_or heap.marks k 0 in
    let refs = refs_of (header_at heap.edition heap.words mark) in
    let placed = sound.placed k 0 lt in
    let long : length (take refs (drop (mark + 1) heap.words)) ≡ refs = simp (length-take, length-drop) (omega (arith, placed.within)) in
    let value = sound.references k 0 lt f 0 (omega arith) in
    let read : get_or (take refs (drop (mark + 1) heap.words)) f 0 ≡ get_or heap.words (mark + suc f) 0 =
    get_or-take refs (drop (mark + 1) heap.words) f 0 (omega arith) ∙ get_or-drop (mark + 1) heap.words f 0
    ∙ ap (λ (n : ℕ). get_or heap.words n 0) (omega arith) in
    rw (← read) value
