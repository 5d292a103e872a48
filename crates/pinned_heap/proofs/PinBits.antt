-- The bits of the objects that are pinned.
use Rattle.std.proofs.Common.{◌≡◌, ◌≢◌, ℕ, ◌+◌, ◌-◌, ◌^◌, ◌<◌, ◌==◌, ◌||◌, Bool, true, false, not, leb, cond, Some, None, List, [], ◌∷◌, length, get_or, take, inl, inr, refl, sym, ap, ◌∙◌, arith}
use Rattle.std.proofs.lemmas.Bool.{and_from, and_left, and_parts, and_right, cases_eq, eq-eqb, leb-true, ne_eqb, or_right}
use Rattle.std.proofs.lemmas.List.{take_more}
use Rattle.std.proofs.lemmas.List.Folds.{list_any-append}
use Rattle.heap_layout.specs.Bits.{bit}
use Rattle.heap_layout.specs.declared.edition.Edition.{Edition}
use Rattle.heap_layout.specs.Heap.{from_address}
use Rattle.heap_layout.specs.Values.{is_immediate}
use Rattle.heap_layout.proofs.MarkBits.{or_none}
use Rattle.reachability.specs.Queue.{is_address, object_of}
use Rattle.pinned_heap.specs.Around.{stays}
use Rattle.pinned_heap.specs.Tables.{is_pin}

-- ---- what a look-up says

some-of : (b : Bool) (n i : ℕ) → Some i ≡ cond b (Some n) None → (b ≡ true) × (i ≡ n)
some-of true n i is = (refl, cc)
some-of false n i is = absurd (cc)

none-of : (b : Bool) (n : ℕ) → None ≡ cond b (Some n) None → b ≡ false
none-of true n is = absurd (cc)
none-of false n is = refl

-- the object that was found
pub record IsObject (row : ℕ → Bool) (word i : ℕ) : Type 0 where
  pub address : is_address row word ≡ true
  pub at : word ≡ from_address i
  pub here : row i ≡ true

pub object-found : (row : ℕ → Bool) (word i : ℕ) → Some i ≡ object_of row word → IsObject row word i
object-found row word i is =
    let found = some-of (is_address row word) (word - 2 ^ 32) i is in
    let parts = and_parts (leb (2 ^ 32) word) (row (word - 2 ^ 32)) found.0 in
    let above = leb-true (2 ^ 32) word parts.0 in
    record {
      address = found.0;
      at = omega (arith, found.1, above);
      here = ap row found.1 ∙ parts.1;
    }

pub pin-found : (edition : Edition) (heads : List ℕ) (word : ℕ) → is_immediate edition word ≡ false → is_address (bit heads) word ≡ true → is_pin edition heads word ≡ true
pin-found edition heads word plain address = and_from (not (is_immediate edition word)) (is_address (bit heads) word) (ap not plain) address

pub pin-immediate : (edition : Edition) (heads : List ℕ) (word : ℕ) → is_immediate edition word ≡ true → is_pin edition heads word ≡ false
pin-immediate edition heads word immediate = and_left (not (is_immediate edition word)) (is_address (bit heads) word) (ap not immediate)

pub pin-unknown : (edition : Edition) (heads : List ℕ) (word : ℕ) → None ≡ object_of (bit heads) word → is_pin edition heads word ≡ false
pin-unknown edition heads word is = and_right (not (is_immediate edition word)) (is_address (bit heads) word) (none-of (is_address (bit heads) word) (word - 2 ^ 32) is)

-- ---- one pin more

pub pinned-more : (old new pins : List ℕ) (k i : ℕ) → k < length pins → get_or pins k 0 ≡ from_address i → bit new i ≡ true → ((j : ℕ) → j ≢ i → bit new j ≡ bit old j)
    → ((j : ℕ) → bit old j ≡ stays (take k pins) j) → (j : ℕ) → bit new j ≡ stays (take (k + 1) pins) j
pinned-more old new pins k i lt at here elsewhere are j =
    let pin = get_or pins k 0 in
    let parts : stays (take (k + 1) pins) j ≡ (stays (take k pins) j || ((pin == from_address j) || false)) =
    ap (λ (xs : List ℕ). stays xs j) (take_more pins k 0 lt) ∙ list_any-append (λ p. p == from_address j) (take k pins) (pin ∷ []) in
    elim (cases_eq j i) [
      | inl same ↦
          let this : (pin == from_address j) ≡ true = eq-eqb pin (from_address j) (omega (arith, at, same)) in
          let set : bit new j ≡ true = ap (bit new) same ∙ here in
          let said : stays (take (k + 1) pins) j ≡ true = parts ∙ or_right (stays (take k pins) j) ((pin == from_address j) || false) (ap (λ (b : Bool). b || false) this) in
          set ∙ sym said
      | inr other ↦
          let not_this : (pin == from_address j) ≡ false = ne_eqb pin (from_address j) (λ same. other (omega (arith, at, same))) in
          let said : stays (take (k + 1) pins) j ≡ stays (take k pins) j = parts ∙ ap (λ (b : Bool). stays (take k pins) j || (b || false)) not_this ∙ or_none (stays (take k pins) j) in
          elsewhere j other ∙ are j ∙ sym said
    ]

-- each that stays is a live object
pub objects-more : (heads old new : List ℕ) (i : ℕ) → bit heads i ≡ true → ((j : ℕ) → j ≢ i → bit new j ≡ bit old j) → ((j : ℕ) → bit old j ≡ true → bit heads j ≡ true)
    → (j : ℕ) → bit new j ≡ true → bit heads j ≡ true
objects-more heads old new i live elsewhere are j set = elim (cases_eq j i) [
  | inl same ↦ ap (bit heads) same ∙ live
  | inr other ↦ are j (sym (elsewhere j other) ∙ set)
]
