-- The numbers of the objects of a sound heap.
use Rattle.std.proofs.Common.{◌≡◌, ℕ, ◌<◌, ◌==◌, ◌⊎◌, false, List, length, get_or, map, inl, inr, sym, ap, ◌∙◌, arith}
use Rattle.std.specs.List.{list_any}
use Rattle.std.proofs.lemmas.Bool.{cases_Bool, both_ways, or_right}
use Rattle.std.proofs.lemmas.List.{length-map, get_or-map as read_map}
use Rattle.heap_layout.specs.Heap.{Heap, object_at, live, from_address, is_target}
use Rattle.heap_layout.specs.Values.{is_immediate}
use Rattle.heap_layout.proofs.Bounds.{words_most}
use Rattle.comp_cycles.specs.NumberedHeaps.{Names, names_in, number_at, numbered_object, IsNumberedAs}
use Rattle.comp_cycles.specs.Stable.{StableHeap}
use Rattle.comp_cycles.proofs.Living.{number_is}
use Rattle.comp_cycles.proofs.Naming.{at_name, no_name}
use Rattle.comp_cycles.proofs.Targets.{target_cases, target_mark}
use Rattle.rest_marks.specs.Reached.{IsSound}
use Rattle.rest_marks.proofs.Heads.{marks-above}
use Rattle.rest_slide.proofs.Settling.{is-plain}

-- a word is the address of no marked object
abbrev pub IsNoMark : List ℕ → ℕ → Type 0
IsNoMark marks word = (k : ℕ) → k < length marks → from_address (get_or marks k 0) ≡ word → ⊥

-- null is none's
pub null-none : (marks : List ℕ) → IsNoMark marks 0
null-none marks k lt same = omega (arith, same)

-- a word is an object's address or none's
pub mark-cases : (marks : List ℕ) (word : ℕ) → ((k : ℕ) × (k < length marks) × (from_address (get_or marks k 0) ≡ word)) ⊎ IsNoMark marks word
mark-cases marks word = elim (cases_Bool (is_target marks word)) [
  | inl target ↦ elim (target_cases marks word target) [
    | inl null ↦ inr (λ k lt same. omega (arith, same, null))
    | inr at ↦ inl at
  ]
  | inr fails ↦
      inr (λ k lt same. both_ways (is_target marks word) fails
      (or_right (word == 0) (list_any (λ mark. from_address mark == word) marks) (target_mark marks word k lt same)))
]

-- no marked object has an immediate for an address
pub address-plain : (heap : Heap) → IsSound heap → (k : ℕ) → k < length heap.marks → is_immediate heap.edition (from_address (get_or heap.marks k 0)) ≡ false
address-plain heap is k lt =
    let placed = is.placed k 0 lt in
    is-plain heap.edition (from_address (get_or heap.marks k 0)) (omega (arith, placed.within, is.few_words, words_most heap.edition))

-- there are as many numbers as marked objects
pub numbers-long : (heap : Heap) (numbers : List ℕ) (stable : StableHeap) → IsNumberedAs heap numbers stable → length numbers ≡ length heap.marks
numbers-long heap numbers stable is =
    sym (length-map numbers stable.words) ∙ ap length is.words
    ∙ length-map (live heap) (numbered_object (names_in heap numbers)) ∙ length-map heap.marks (object_at heap.edition heap.words)

module _ (heap : Heap) (is : IsSound heap) (numbers : List ℕ) (as_many : length numbers ≡ length heap.marks) where
  abbrev names : Names
  names = names_in heap numbers

  abbrev address : ℕ → ℕ
  address k = from_address (get_or heap.marks k 0)

  -- as many addresses as marked objects
  keys-long : length (map from_address heap.marks) ≡ length heap.marks
  keys-long = length-map heap.marks from_address

  -- each is that of its object
  key-at : (k : ℕ) → k < length heap.marks → get_or (map from_address heap.marks) k 0 ≡ address k
  key-at k lt = read_map from_address heap.marks k 0 0 lt

  -- the number of a marked object
  pub number-marked : (k : ℕ) → k < length heap.marks → number_at (names_in heap numbers) (from_address (get_or heap.marks k 0)) ≡ get_or numbers k 0
  number-marked k lt =
      number_is names (address k) (address-plain heap is k lt)
      ∙ at_name (map from_address heap.marks) numbers k (address k) (omega (arith, lt, keys-long)) (keys-long ∙ sym as_many) (key-at k lt)
      (λ i less same. (let rises = marks-above heap is i k less lt in omega (arith, rises, key-at i (omega (arith, less, lt)), same)))

  -- a word that is no address of a marked object has the number 0
  pub number-none : (word : ℕ) → is_immediate heap.edition word ≡ false → IsNoMark heap.marks word → number_at (names_in heap numbers) word ≡ 0
  number-none word plain none =
      number_is names word plain
      ∙ no_name (map from_address heap.marks) numbers word
      (λ k lt same. (let within : k < length heap.marks = omega (arith, lt, keys-long) in none k within (sym (key-at k within) ∙ same)))

  -- null is one
  pub number-null : number_at (names_in heap numbers) 0 ≡ 0
  number-null = number-none 0 (is-plain heap.edition 0 (omega arith)) (null-none heap.marks)
