-- What the objects that threads found make of the queue is what the references make of it.
use Rattle.std.proofs.Common.{◌≡◌, ℕ, suc, ◌+◌, ◌-◌, ◌*◌, ◌^◌, ◌<◌, ◌≤◌, ◌&&◌, Bool, true, false, not, cond, leb, List, [], ◌∷◌, ◌++◌, Option, Some, None, Result, Ok, Err, IfOk, inl, inr, length, get_or, take, drop, map, fold, All, refl, sym, ap, subst, ◌∙◌, arith, append-nil}
use Rattle.std.specs.Fork.{slice_chunk}
use Rattle.std.specs.Global.{Vec}
use Rattle.std.specs.List.{flat_map}
use Rattle.std.proofs.Math.Nat.{suc-mul}
use Rattle.std.proofs.lemmas.Bool.{leb-true, and_from, and_parts, both_ways}
use Rattle.std.proofs.lemmas.List.{append_assoc, drop-drop, get_or-drop, get_or-take, length-drop, length-take-le, map-append, take-append-drop}
use Rattle.std.proofs.lemmas.List.Elements.{All-from_get_or, All-head, All-tail, All-take}
use Rattle.std.proofs.lemmas.List.Sums.{fold-append}
use Rattle.heap_layout.specs.declared.edition.Edition.{Edition}
use Rattle.heap_layout.specs.Heap.{from_address, starts, IsPlaced}
use Rattle.heap_layout.specs.Faults.{object_faults}
use Rattle.reachability.specs.Queue.{has, is_address, object_of, extended, after_word, after_object, after_found, after_part, found_more, IsFound}
use Rattle.reachability.proofs.Queues.{after-cases, kept, places}
use Rattle.reachability.proofs.Marking.{IsMarking, IsRow, marking-next, marking-placed, references_of}

-- ---- what was found, one after the other

extended-append : (list : List ℕ) (object : Option ℕ) → extended list object ≡ list ++ extended [] object
extended-append list None = sym (append-nil list)
extended-append list (Some i) = refl

found-behind : (row : ℕ → Bool) (list words : List ℕ) → fold (after_found row) list words ≡ list ++ fold (after_found row) [] words
found-behind row list [] = sym (append-nil list)
found-behind row list (word ∷ words) =
    let object = object_of row word in
    let rest = fold (after_found row) [] words in
    found-behind row (extended list object) words ∙ ap (λ (xs : List ℕ). xs ++ rest) (extended-append list object) ∙ append_assoc list (extended [] object) rest
    ∙ ap (λ (xs : List ℕ). list ++ xs) (sym (found-behind row (extended [] object) words))

more-behind : (edition : Edition) (words : List ℕ) (row : ℕ → Bool) (list objects : List ℕ) → fold (found_more edition words row) list objects ≡ list ++ fold (found_more edition words row) [] objects
more-behind edition words row list [] = sym (append-nil list)
more-behind edition words row list (object ∷ objects) =
    let here = fold (after_found row) [] (references_of edition words object) in
    let rest = fold (found_more edition words row) [] objects in
    more-behind edition words row (fold (after_found row) list (references_of edition words object)) objects
    ∙ ap (λ (xs : List ℕ). xs ++ rest) (found-behind row list (references_of edition words object)) ∙ append_assoc list here rest
    ∙ ap (λ (xs : List ℕ). list ++ xs) (sym (more-behind edition words row here objects))

-- ---- the queue

-- the queue has what the first one had
abbrev pub Covers : List ℕ → List ℕ → Type 0
Covers first queue = (i : ℕ) → has first i ≡ true → has queue i ≡ true

-- the bits are those of the objects of the row that the first queue has not
abbrev pub IsUnmetBy : (ℕ → Bool) → List ℕ → (ℕ → Bool) → Type 0
IsUnmetBy row first bits = (i : ℕ) → bits i ≡ (row i && not (has first i))

not-had-by : (queue : List ℕ) (i : ℕ) (had : Bool) → (had ≡ true → has queue i ≡ true) → has queue i ≡ false → not had ≡ true
not-had-by queue i false covers new = refl
not-had-by queue i true covers new = absurd (both_ways _ new (covers refl))

-- a word that leads to no object that was not met at first changes nothing
no-more : (row : ℕ → Bool) (first : List ℕ) (bits : ℕ → Bool) (queue : List ℕ) (word : ℕ) → IsUnmetBy row first bits → Covers first queue → is_address bits word ≡ false → after_word row queue word ≡ queue
no-more row first bits queue word are covers none =
    let i = word - 2 ^ 32 in
    elim (after-cases row queue word) [
      | inl same ↦ same.0
      | inr more ↦
          let parts = and_parts (leb (2 ^ 32) word) (row i) more.1 in
          let new = not-had-by queue i (has first i) (covers i) more.2 in
          let unmet : bits i ≡ true = are i ∙ and_from (row i) (not (has first i)) parts.1 new in
          absurd (both_ways _ none (and_from (leb (2 ^ 32) word) (bits i) parts.0 unmet))
    ]

-- what was found by one word makes of the queue what the word makes of it
one-found : (row : ℕ → Bool) (first : List ℕ) (bits : ℕ → Bool) (queue : List ℕ) (word : ℕ) (address : Bool) → IsUnmetBy row first bits → Covers first queue → is_address bits word ≡ address
    → fold (after_word row) queue (map from_address (extended [] (cond address (Some (word - 2 ^ 32)) None))) ≡ after_word row queue word
one-found row first bits queue word false are covers is = sym (no-more row first bits queue word are covers is)
one-found row first bits queue word true are covers is =
    let above = leb-true (2 ^ 32) word (and_parts (leb (2 ^ 32) word) (bits (word - 2 ^ 32)) is).0 in
    let same : from_address (word - 2 ^ 32) ≡ word = omega arith in
    ap (after_word row queue) same

covers-more : (row : ℕ → Bool) (first queue words : List ℕ) → Covers first queue → Covers first (fold (after_word row) queue words)
covers-more row first queue words covers i there = kept row queue words i (covers i there)

-- what was found by some words makes of the queue what the words make of it
words-found : (row : ℕ → Bool) (first : List ℕ) (bits : ℕ → Bool) (queue words : List ℕ) → IsUnmetBy row first bits → Covers first queue
    → fold (after_word row) queue (map from_address (fold (after_found bits) [] words)) ≡ fold (after_word row) queue words
words-found row first bits queue [] are covers = refl
words-found row first bits queue (word ∷ words) are covers =
    let here = extended [] (object_of bits word) in
    let rest = fold (after_found bits) [] words in
    ap (λ (xs : List ℕ). fold (after_word row) queue (map from_address xs)) (found-behind bits here words)
    ∙ ap (fold (after_word row) queue) (map-append from_address here rest)
    ∙ fold-append (after_word row) queue (map from_address here) (map from_address rest)
    ∙ ap (λ (q : List ℕ). fold (after_word row) q (map from_address rest)) (one-found row first bits queue word (is_address bits word) are covers refl)
    ∙ words-found row first bits (after_word row queue word) words are (covers-more row first queue (word ∷ []) covers)

-- what was found by some objects makes of the queue what their references make of it
objects-found : (edition : Edition) (words : List ℕ) (row : ℕ → Bool) (first : List ℕ) (bits : ℕ → Bool) (queue objects : List ℕ) → IsUnmetBy row first bits → Covers first queue
    → fold (after_word row) queue (map from_address (fold (found_more edition words bits) [] objects)) ≡ fold (after_object edition words row) queue objects
objects-found edition words row first bits queue [] are covers = refl
objects-found edition words row first bits queue (object ∷ objects) are covers =
    let references = references_of edition words object in
    let here = fold (after_found bits) [] references in
    let rest = fold (found_more edition words bits) [] objects in
    ap (λ (xs : List ℕ). fold (after_word row) queue (map from_address xs)) (more-behind edition words bits here objects)
    ∙ ap (fold (after_word row) queue) (map-append from_address here rest)
    ∙ fold-append (after_word row) queue (map from_address here) (map from_address rest)
    ∙ ap (λ (q : List ℕ). fold (after_word row) q (map from_address rest)) (words-found row first bits queue references are covers)
    ∙ objects-found edition words row first bits (fold (after_word row) queue references) objects are (covers-more row first queue references covers)

covers-objects : (edition : Edition) (words : List ℕ) (row : ℕ → Bool) (first queue objects : List ℕ) → Covers first queue → Covers first (fold (after_object edition words row) queue objects)
covers-objects edition words row first queue [] covers = covers
covers-objects edition words row first queue (object ∷ objects) covers =
    covers-objects edition words row first (fold (after_word row) queue (references_of edition words object)) objects (covers-more row first queue (references_of edition words object) covers)

-- ---- the parts

-- each part, if there was memory for it, is what was found by its chunk of the objects
abbrev pub AreParts : {E : Type 0} → Edition → List ℕ → (ℕ → Bool) → ℕ → List ℕ → List (Result (Vec ℕ) E) → Type 0
AreParts {E} edition words bits size objects parts =
    (n : ℕ) (d : Result (Vec ℕ) E) → n < length parts → IfOk (get_or parts n d) (λ found. found.items ≡ fold (found_more edition words bits) [] (slice_chunk objects size n))

-- the first chunk, and those of the rest
chunk-first : (size : ℕ) (objects : List ℕ) → slice_chunk objects size 0 ≡ take size objects
chunk-first size objects =
    let none : 0 * size ≡ 0 = omega arith in
    ap (λ (n : ℕ). take size (drop n objects)) none

chunk-later : (size : ℕ) (objects : List ℕ) (n : ℕ) → slice_chunk objects size (suc n) ≡ slice_chunk (drop size objects) size n
chunk-later size objects n =
    let more : suc n * size ≡ size + n * size = omega (arith, suc-mul n size) in
    ap (λ (k : ℕ). take size (drop k objects)) more ∙ ap (take size) (sym (drop-drop (n * size) size objects))

-- all parts make of the queue what the references of all objects make of it
pub parts-found : {E : Type 0} (edition : Edition) (words : List ℕ) (row : ℕ → Bool) (first : List ℕ) (bits : ℕ → Bool) (size : ℕ) (queue objects : List ℕ) (parts : List (Result (Vec ℕ) E)) → IsUnmetBy row first bits
    → Covers first queue → All IsFound parts → length objects ≤ length parts * size → AreParts edition words bits size objects parts
    → fold (after_part row) queue parts ≡ fold (after_object edition words row) queue objects
parts-found edition words row first bits size queue [] [] are covers found enough of = refl
parts-found edition words row first bits size queue (object ∷ objects) [] are covers found enough of = absurd (omega arith)
parts-found edition words row first bits size queue objects (Err e ∷ parts) are covers found enough of =
    absurd (let no : false ≡ true = All-head IsFound (Err e) parts found in cc)
parts-found edition words row first bits size queue objects (Ok part ∷ parts) are covers found enough of =
    let chunk = take size objects in
    let rest = drop size objects in
    let next = fold (after_object edition words row) queue chunk in
    let items : part.items ≡ fold (found_more edition words bits) [] chunk = of 0 (Ok part) (omega arith) ∙ ap (fold (found_more edition words bits) []) (chunk-first size objects) in
    let here : fold (after_word row) queue (map from_address part.items) ≡ next =
    ap (λ (xs : List ℕ). fold (after_word row) queue (map from_address xs)) items ∙ objects-found edition words row first bits queue chunk are covers in
    let more : suc (length parts) * size ≡ size + length parts * size = omega (arith, suc-mul (length parts) size) in
    let later = parts-found edition words row first bits size next rest parts are (covers-objects edition words row first queue chunk covers) (All-tail IsFound (Ok part) parts found)
    (omega (arith, length-drop size objects, more, enough))
    (λ n d within. subst (λ (c : List ℕ). IfOk (get_or parts n d) (λ f. f.items ≡ fold (found_more edition words bits) [] c)) (chunk-later size objects n) (of (suc n) d (omega arith))) in
    ap (λ (q : List ℕ). fold (after_part row) q parts) here ∙ later
    ∙ sym (fold-append (after_object edition words row) queue chunk rest) ∙ ap (fold (after_object edition words row) queue) (take-append-drop size objects)

-- ---- the marking

-- after the references of some objects more
pub marking-many : (edition : Edition) (words roots : List ℕ) (row : ℕ → Bool) (queue objects : List ℕ) (next : ℕ) → IsRow edition words row → IsMarking edition words roots row queue next
    → next + length objects ≤ length queue → ((k : ℕ) → k < length objects → get_or queue (next + k) 0 ≡ get_or objects k 0)
    → IsMarking edition words roots row (fold (after_object edition words row) queue objects) (next + length objects)
marking-many edition words roots row queue [] next is of within same =
    let none : next ≡ next + 0 = omega arith in
    subst (IsMarking edition words roots row queue) none of
marking-many edition words roots row queue (object ∷ objects) next is of within same =
    let first : get_or queue next 0 ≡ object = ap (λ (k : ℕ). get_or queue k 0) (let e : next ≡ next + 0 = omega arith in e) ∙ same 0 (omega arith) in
    let new = after_object edition words row queue object in
    let inside : next < length queue = omega arith in
    let from : new ≡ fold (after_word row) queue (references_of edition words (get_or queue next 0)) = ap (λ (i : ℕ). fold (after_word row) queue (references_of edition words i)) (sym first) in
    let marking = marking-next edition words roots row queue next new is of inside from in
    let last = places row queue (references_of edition words object) (next + length objects) (omega arith) in
    let below = last.0 in
    let later = marking-many edition words roots row new objects (next + 1) is marking (omega (arith, below))
    (λ k short.
    let there : next + 1 + k < length queue = omega arith in
    let place : next + 1 + k ≡ next + suc k = omega arith in
    (places row queue (references_of edition words object) (next + 1 + k) there).1 ∙ ap (λ (j : ℕ). get_or queue j 0) place ∙ same (suc k) (omega arith)) in
    let all : next + 1 + length objects ≡ next + suc (length objects) = omega arith in
    subst (IsMarking edition words roots row (fold (after_object edition words row) new objects)) all later

-- after the references of the objects from a place of the queue to another
pub marking-round : (edition : Edition) (words roots : List ℕ) (row : ℕ → Bool) (queue : List ℕ) (next end : ℕ) (new : List ℕ) → IsRow edition words row → IsMarking edition words roots row queue next
    → next < end → end ≤ length queue → new ≡ fold (after_object edition words row) queue (take (end - next) (drop next queue)) → IsMarking edition words roots row new end
marking-round edition words roots row queue next end new is of above within from =
    let behind = drop next queue in
    let waiting = end - next in
    let objects = take waiting behind in
    let all : next + length objects ≡ end = omega (arith, length-drop next queue, length-take-le waiting behind (omega (arith, length-drop next queue))) in
    rw from (subst (IsMarking edition words roots row (fold (after_object edition words row) queue objects)) all
    (marking-many edition words roots row queue objects next is of (omega (arith, all))
    (λ k short. sym (get_or-take waiting behind k 0 (omega (arith, all, short)) ∙ get_or-drop next queue k 0))))

-- the objects from a place of the queue on are placed
pub round-placed : (edition : Edition) (words roots : List ℕ) (row : ℕ → Bool) (queue : List ℕ) (next waiting : ℕ) → IsRow edition words row
    → flat_map (object_faults edition words) (starts edition words) ≡ [] → IsMarking edition words roots row queue next → All (IsPlaced edition words) (take waiting (drop next queue))
round-placed edition words roots row queue next waiting is none of =
    let long = length-drop next queue in
    All-take (IsPlaced edition words) waiting (drop next queue) (All-from_get_or (IsPlaced edition words) (drop next queue) 0
    (λ k short. subst (IsPlaced edition words) (sym (get_or-drop next queue k 0)) (marking-placed edition words roots row queue next (next + k) is none of (omega (arith, long, short)))))
