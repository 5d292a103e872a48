-- Runs of live words, block by block.
use Rattle.std.proofs.Common.{◌≡◌, ℕ, zero, suc, ◌+◌, ◌*◌, ◌/◌, ◌%◌, ◌<◌, ◌≤◌, ◌==◌, ◌⊎◌, true, false, List, length, get_or, inl, inr, sym, ap, subst, ◌∙◌, arith}
use Rattle.std.specs.Int.{bit_at}
use Rattle.std.proofs.lemmas.Bool.{cases_lt, cases_eq, eqb-true}
use Rattle.std.proofs.lemmas.Nat.Bits.{bit_at-zero, bit_at-lt}
use Rattle.heap_layout.specs.Bits.{bit}
use Rattle.rest_marks.specs.Given.{IsOddWord}
use Rattle.rest_marks.proofs.Bounding.{bit-inside}

-- the blocks before block b are runs
pub record AreRunsTo (heads bits : List ℕ) (b : ℕ) : Type 0 where
  pub live : (i : ℕ) → i < 64 * b → bit heads i ≡ true → bit bits i ≡ true
  pub begun : (i : ℕ) → i + 1 < 64 * b → bit bits (i + 1) ≡ true → (bit heads (i + 1) ≡ true) ⊎ (bit bits i ≡ true)
  pub first : 0 < b → bit bits 0 ≡ true → bit heads 0 ≡ true

-- 1 says that the word before block b is live, and 0 that it is not
pub record SaysLive (bits : List ℕ) (b before : ℕ) : Type 0 where
  pub few : before ≤ 1
  pub some : before ≡ 1 → 0 < b
  pub live : before ≡ 1 → (j : ℕ) → j + 1 ≡ 64 * b → bit bits j ≡ true
  pub none : before ≡ 0 → (j : ℕ) → j + 1 ≡ 64 * b → bit bits j ≡ false

pub bit-one : (bits : List ℕ) (b i : ℕ) → i / 64 ≡ b → bit bits i ≡ true → bit_at (get_or bits b 0) (i % 64) ≡ 1
bit-one bits b i here set = eqb-true (bit_at (get_or bits b 0) (i % 64)) 1 (subst (λ (n : ℕ). (bit_at (get_or bits n 0) (i % 64) == 1) ≡ true) here set)

pub one-bit : (bits : List ℕ) (b i : ℕ) → i / 64 ≡ b → bit_at (get_or bits b 0) (i % 64) ≡ 1 → bit bits i ≡ true
one-bit bits b i here one = ap (λ (n : ℕ). bit_at (get_or bits n 0) (i % 64) == 1) here ∙ ap (λ (n : ℕ). n == 1) one

-- what is asked of a block
pub record IsRunBlock (head block before : ℕ) : Type 0 where
  pub live : (k : ℕ) → k < 64 → bit_at head k ≡ 1 → bit_at block k ≡ 1
  pub begun : (k : ℕ) → k < 63 → bit_at block (k + 1) ≡ 1 → (bit_at head (k + 1) ≡ 1) ⊎ (bit_at block k ≡ 1)
  pub first : bit_at block 0 ≡ 1 → (bit_at head 0 ≡ 1) ⊎ (before ≡ 1)

module _ (heads bits : List ℕ) (b before : ℕ) (runs : AreRunsTo heads bits b) (says : SaysLive bits b before) (is : IsRunBlock (get_or heads b 0) (get_or bits b 0) before) where
  -- the first word of the block
  first-word : (i : ℕ) → i ≡ 64 * b → bit bits i ≡ true → (bit heads i ≡ true) ⊎ (before ≡ 1)
  first-word i at set =
      let here : i / 64 ≡ b = omega (arith, at) in
      let low : i % 64 ≡ 0 = omega (arith, at) in
      let one : bit_at (get_or bits b 0) 0 ≡ 1 = subst (λ (k : ℕ). bit_at (get_or bits b 0) k ≡ 1) low (bit-one bits b i here set) in
      elim (is.first one) [
        | inl head ↦ inl (one-bit heads b i here (subst (λ (k : ℕ). bit_at (get_or heads b 0) k ≡ 1) (sym low) head))
        | inr said ↦ inr said
      ]

  begun-next : (i : ℕ) → i + 1 < 64 * (b + 1) → bit bits (i + 1) ≡ true → (bit heads (i + 1) ≡ true) ⊎ (bit bits i ≡ true)
  begun-next i lt set = elim (cases_lt (i + 1) (64 * b)) [
    | inl old ↦ runs.begun i old set
    | inr new ↦ elim (cases_eq (i + 1) (64 * b)) [
      | inl edge ↦ elim (first-word (i + 1) edge set) [
        | inl head ↦ inl head
        | inr said ↦ inr (says.live said i edge)
      ]
      | inr inner ↦
          let here : i / 64 ≡ b = omega (arith, new, inner, lt) in
          let there : (i + 1) / 64 ≡ b = omega (arith, new, inner, lt) in
          let next : (i + 1) % 64 ≡ i % 64 + 1 = omega (arith, here, there) in
          let one : bit_at (get_or bits b 0) (i % 64 + 1) ≡ 1 = subst (λ (k : ℕ). bit_at (get_or bits b 0) k ≡ 1) next (bit-one bits b (i + 1) there set) in
          elim (is.begun (i % 64) (omega (arith, next)) one) [
            | inl head ↦ inl (one-bit heads b (i + 1) there (subst (λ (k : ℕ). bit_at (get_or heads b 0) k ≡ 1) (sym next) head))
            | inr live ↦ inr (one-bit bits b i here live)
          ]
    ]
  ]

  pub runs-next : AreRunsTo heads bits (b + 1)
  runs-next = record {
    live = λ i lt set. elim (cases_lt i (64 * b)) [
      | inl old ↦ runs.live i old set
      | inr new ↦
          let here : i / 64 ≡ b = omega (arith, new, lt) in
          one-bit bits b i here (is.live (i % 64) (omega arith) (bit-one heads b i here set))
    ];
    begun = begun-next;
    first = λ some set. elim (cases_eq b 0) [
      | inl none ↦
          let at : 0 ≡ 64 * b = omega (arith, none) in
          elim (first-word 0 at set) [
            | inl head ↦ head
            | inr said ↦ absurd (let known = says.some said in omega (arith, known, none))
          ]
      | inr more ↦ runs.first (omega (arith, more)) set
    ];
  }

pub zero-bit : (bits : List ℕ) (b i : ℕ) → i / 64 ≡ b → bit_at (get_or bits b 0) (i % 64) ≡ 0 → bit bits i ≡ false
zero-bit bits b i here none = ap (λ (n : ℕ). bit_at (get_or bits n 0) (i % 64) == 1) here ∙ ap (λ (n : ℕ). n == 1) none

-- the bits of the words with a live word before them
pub record AreBehind (block before behind : ℕ) : Type 0 where
  pub first : bit_at behind 0 ≡ before
  pub next : (k : ℕ) → k < 63 → bit_at behind (k + 1) ≡ bit_at block k

-- the bits of the odd words of a block
pub record AreOdd (head block behind odd : ℕ) : Type 0 where
  pub odd_there : (k : ℕ) → k < 64 → bit_at odd k ≡ 1 → (bit_at block k < bit_at head k) ⊎ ((bit_at head k < bit_at block k) × (bit_at behind k ≡ 0))
  pub live : (k : ℕ) → k < 64 → bit_at odd k ≡ 0 → bit_at head k ≤ bit_at block k
  pub begun : (k : ℕ) → k < 64 → bit_at odd k ≡ 0 → (bit_at block k ≤ bit_at head k) ⊎ (bit_at behind k ≡ 1)

-- a block without odd words
pub run-block : (head block before behind odd : ℕ) → AreBehind block before behind → AreOdd head block behind odd → odd ≡ 0 → IsRunBlock head block before
run-block head block before behind odd are is none =
    let zero_at : (k : ℕ) → bit_at odd k ≡ 0 = λ k. ap (λ (n : ℕ). bit_at n k) none ∙ bit_at-zero k in
    record {
      live = λ k lt one. omega (arith, is.live k lt (zero_at k), one, bit_at-lt block k);
      begun = λ k lt one. elim (is.begun (k + 1) (omega (arith, lt)) (zero_at (k + 1))) [
        | inl head_too ↦ inl (omega (arith, head_too, one, bit_at-lt head (k + 1)))
        | inr after ↦ inr (sym (are.next k lt) ∙ after)
      ];
      first = λ one. elim (is.begun 0 (omega arith) (zero_at 0)) [
        | inl head_too ↦ inl (omega (arith, head_too, one, bit_at-lt head 0))
        | inr after ↦ inr (sym are.first ∙ after)
      ];
    }

-- the word before a word that has no live word before it
not-behind : (bits : List ℕ) (b before behind k : ℕ) → k < 64 → SaysLive bits b before → AreBehind (get_or bits b 0) before behind → bit_at behind k ≡ 0
    → (j : ℕ) → j + 1 ≡ 64 * b + k → bit bits j ≡ false
not-behind bits b before behind zero lt says are none j at = says.none (sym are.first ∙ none) j (omega (arith, at))
not-behind bits b before behind (suc k) lt says are none j at =
    let here : j / 64 ≡ b = omega (arith, at, lt) in
    let low : k ≡ j % 64 = omega (arith, at, lt) in
    let up : k + 1 ≡ suc k = omega arith in
    let unset : bit_at (get_or bits b 0) k ≡ 0 = sym (are.next k (omega (arith, lt))) ∙ ap (bit_at behind) up ∙ none in
    zero-bit bits b j here (subst (λ (n : ℕ). bit_at (get_or bits b 0) n ≡ 0) low unset)

-- an odd word
pub odd-there : (heads bits : List ℕ) (b before behind odd k : ℕ) → k < 64 → SaysLive bits b before → AreBehind (get_or bits b 0) before behind
    → AreOdd (get_or heads b 0) (get_or bits b 0) behind odd → bit_at odd k ≡ 1 → IsOddWord heads bits (64 * b + k)
odd-there heads bits b before behind odd k lt says are is one =
    let i = 64 * b + k in
    let head = get_or heads b 0 in
    let block = get_or bits b 0 in
    let here : i / 64 ≡ b = omega (arith, lt) in
    let low : k ≡ i % 64 = omega (arith, lt) in
    let set : (xs : List ℕ) → bit_at (get_or xs b 0) k ≡ 1 → bit xs i ≡ true = λ xs at. one-bit xs b i here (subst (λ (n : ℕ). bit_at (get_or xs b 0) n ≡ 1) low at) in
    let unset : (xs : List ℕ) → bit_at (get_or xs b 0) k ≡ 0 → bit xs i ≡ false = λ xs at. zero-bit xs b i here (subst (λ (n : ℕ). bit_at (get_or xs b 0) n ≡ 0) low at) in
    elim (is.odd_there k lt one) [
      | inl dead ↦ inl (set heads (omega (arith, dead, bit_at-lt head k)), unset bits (omega (arith, dead, bit_at-lt head k)))
      | inr lone ↦ inr (set bits (omega (arith, lone.0, bit_at-lt block k)), unset heads (omega (arith, lone.0, bit_at-lt block k)), not-behind bits b before behind k lt says are lone.1)
    ]

-- the last word of a block
pub last-live : (bits : List ℕ) (b last : ℕ) → last ≡ bit_at (get_or bits b 0) 63 → SaysLive bits (b + 1) last
last-live bits b last is =
    let top : (j : ℕ) → j + 1 ≡ 64 * (b + 1) → 63 ≡ j % 64 = λ j at. omega (arith, at) in
    let here : (j : ℕ) → j + 1 ≡ 64 * (b + 1) → j / 64 ≡ b = λ j at. omega (arith, at) in
    record {
      few = omega (arith, is, bit_at-lt (get_or bits b 0) 63);
      some = λ said. omega arith;
      live = λ said j at. one-bit bits b j (here j at) (subst (λ (k : ℕ). bit_at (get_or bits b 0) k ≡ 1) (top j at) (sym is ∙ said));
      none = λ said j at. zero-bit bits b j (here j at) (subst (λ (k : ℕ). bit_at (get_or bits b 0) k ≡ 0) (top j at) (sym is ∙ said));
    }

-- all blocks
pub all-live : (heads bits : List ℕ) → length heads ≡ length bits → AreRunsTo heads bits (length bits) → (i : ℕ) → bit heads i ≡ true → bit bits i ≡ true
all-live heads bits same runs i set = runs.live i (omega (arith, bit-inside heads i set, same)) set

pub all-begun : (heads bits : List ℕ) → AreRunsTo heads bits (length bits) → (i : ℕ) → bit bits (i + 1) ≡ true → (bit heads (i + 1) ≡ true) ⊎ (bit bits i ≡ true)
all-begun heads bits runs i set = runs.begun i (bit-inside bits (i + 1) set) set

pub all-first : (heads bits : List ℕ) → AreRunsTo heads bits (length bits) → bit bits 0 ≡ true → bit heads 0 ≡ true
all-first heads bits runs set = runs.first (let inside = bit-inside bits 0 set in omega (arith, inside)) set
