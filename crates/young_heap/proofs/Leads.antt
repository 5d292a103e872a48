-- What is led stays so while the bits below stay.
use Rattle.std.proofs.Common.{◌≡◌, ℕ, ◌+◌, ◌-◌, ◌^◌, ◌<◌, ◌≤◌, ◌==◌, ◌||◌, ◌&&◌, Bool, true, leb, ltb, List, get_or, inl, inr, refl, sym, ap, ◌∙◌, arith}
use Rattle.std.proofs.lemmas.Bool.{cases_lt, or_left, or_right, and_from, le-leb, lt-ltb}
use Rattle.heap_layout.specs.declared.edition.Edition.{Edition}
use Rattle.heap_layout.specs.Bits.{bit}
use Rattle.heap_layout.specs.Values.{is_immediate}
use Rattle.reachability.specs.Queue.{is_address}
use Rattle.young_heap.specs.Young.{is_led, may_lead, AllLed, AreKeptBelow}

may-same : (before after : List ℕ) (old count i : ℕ) → AreKeptBelow old before after → may_lead after old count i ≡ may_lead before old count i
may-same before after old count i kept = elim (cases_lt i old) [
  | inl below ↦ ap (λ (b : Bool). ltb i count && (leb old i || b)) (kept i below)
  | inr above ↦
      ap (λ (b : Bool). ltb i count && b) (or_left (leb old i) (bit after i) (le-leb old i above) ∙ sym (or_left (leb old i) (bit before i) (le-leb old i above)))
]

pub led-same : (edition : Edition) (before after : List ℕ) (old count word : ℕ) → AreKeptBelow old before after → is_led edition after old count word ≡ is_led edition before old count word
led-same edition before after old count word kept =
    ap (λ (b : Bool). is_immediate edition word || ((word == 0) || (leb (2 ^ 32) word && b))) (may-same before after old count (word - 2 ^ 32) kept)

pub all-led-same : (edition : Edition) (before after : List ℕ) (old count : ℕ) (words : List ℕ) → AreKeptBelow old before after
    → AllLed edition after old count words → AllLed edition before old count words
all-led-same edition before after old count words kept led k lt = sym (led-same edition before after old count (get_or words k 0) kept) ∙ led k lt

-- the bits below stay, and stay
pub kept-on : (old : ℕ) (first second third : List ℕ) → AreKeptBelow old first second → AreKeptBelow old second third → AreKeptBelow old first third
kept-on old first second third one two i lt = two i lt ∙ one i lt

-- what is led
pub led-null : (edition : Edition) (starts : List ℕ) (old count word : ℕ) → word ≡ 0 → is_led edition starts old count word ≡ true
led-null edition starts old count word null = rw null (or_right (is_immediate edition 0) true refl)

pub led-immediate : (edition : Edition) (starts : List ℕ) (old count word : ℕ) → is_immediate edition word ≡ true → is_led edition starts old count word ≡ true
led-immediate edition starts old count word is = or_left (is_immediate edition word) ((word == 0) || is_address (may_lead starts old count) word) is

led-at : (edition : Edition) (starts : List ℕ) (old count word i : ℕ) → word ≡ 2 ^ 32 + i → i < count → (leb old i || bit starts i) ≡ true → is_led edition starts old count word ≡ true
led-at edition starts old count word i at inside may =
    let back : word - 2 ^ 32 ≡ i = omega (arith, at) in
    let here : may_lead starts old count (word - 2 ^ 32) ≡ true = ap (may_lead starts old count) back ∙ and_from (ltb i count) (leb old i || bit starts i) (lt-ltb i count inside) may in
    or_right (is_immediate edition word) ((word == 0) || is_address (may_lead starts old count) word)
    (or_right (word == 0) (is_address (may_lead starts old count) word)
    (and_from (leb (2 ^ 32) word) (may_lead starts old count (word - 2 ^ 32)) (le-leb (2 ^ 32) word (omega (arith, at))) here))

pub led-above : (edition : Edition) (starts : List ℕ) (old count word i : ℕ) → word ≡ 2 ^ 32 + i → i < count → old ≤ i → is_led edition starts old count word ≡ true
led-above edition starts old count word i at inside above = led-at edition starts old count word i at inside (or_left (leb old i) (bit starts i) (le-leb old i above))

pub led-start : (edition : Edition) (starts : List ℕ) (old count word i : ℕ) → word ≡ 2 ^ 32 + i → i < count → bit starts i ≡ true → is_led edition starts old count word ≡ true
led-start edition starts old count word i at inside set = led-at edition starts old count word i at inside (or_right (leb old i) (bit starts i) set)
