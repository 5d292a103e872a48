-- References that stay as they are, since they lead to words with only live ones below.
use Rattle.std.proofs.Common.{◌≡◌, ℕ, zero, suc, ◌+◌, ◌-◌, ◌*◌, ◌^◌, ◌<◌, ◌≤◌, ◌==◌, ◌⊎◌, Bool, true, false, cond, min, List, [], ◌∷◌, ◌++◌, length, inl, inr, refl, sym, ap, ◌∙◌, arith, length-append}
use Rattle.std.proofs.lemmas.Bool.{cases_Bool, cases_eq, ne_eqb, both_ways}
use Rattle.heap_layout.specs.declared.edition.Edition.{Edition}
use Rattle.heap_layout.specs.Bits.{bit}
use Rattle.heap_layout.specs.Heap.{IsValue}
use Rattle.heap_layout.specs.Values.{is_immediate}
use Rattle.heap_layout.proofs.Values.{value-cases}
use Rattle.mark_tables.specs.MarkBitmap.{passing, set_bits}
use Rattle.mark_tables.specs.LiveWords.{live_below}
use Rattle.mark_tables.proofs.Passing.{passing-below}
use Rattle.rest_marks.specs.Looking.{led_to}
use Rattle.rest_marks.proofs.Bounding.{bit-inside}
use Rattle.rest_slide.proofs.Targets.{target-cases}

-- there are n numbers below n
all-passing : (test : ℕ → Bool) (n : ℕ) → ((i : ℕ) → i < n → test i ≡ true) → length (passing test n) ≡ n
all-passing test zero all = refl
all-passing test (suc n) all =
    ap (λ (b : Bool). length (passing test n ++ cond b (n ∷ []) [])) (all n (omega arith))
    ∙ length-append (passing test n) (n ∷ [])
    ∙ omega (arith, all-passing test n (λ i lt. all i (omega (arith, lt))))

module _ (bits : List ℕ) (dense : ℕ) (all : (i : ℕ) → i < dense → bit bits i ≡ true) where
  -- such a row of live words lies within the bits
  pub dense-inside : dense ≤ 64 * length bits
  dense-inside = elim (cases_eq dense 0) [
    | inl none ↦ omega (arith, none)
    | inr some ↦ omega (arith, some, bit-inside bits (dense - 1) (all (dense - 1) (omega (arith, some))))
  ]

  -- as many words are live below an index as it says, up to the end of the row
  pub below-dense : (i : ℕ) → i ≤ dense → live_below (set_bits bits) i ≡ i
  below-dense i le =
      let few : min i (64 * length bits) ≡ i = omega (arith, le, dense-inside) in
      passing-below (bit bits) (64 * length bits) i
      ∙ ap (λ (n : ℕ). length (passing (bit bits) n)) few
      ∙ all-passing (bit bits) i (λ j lt. all j (omega (arith, lt, le)))

  -- a reference stays, if it is an immediate, null, or leads to such an index
  pub led-stays : (edition : Edition) (word : ℕ) → (is_immediate edition word ≡ false → (word ≡ 0) ⊎ ((2 ^ 32 ≤ word) × (word - 2 ^ 32 ≤ dense)))
      → led_to edition (set_bits bits) word ≡ word
  led-stays edition word leads =
      let at = 2 ^ 32 + live_below (set_bits bits) (word - 2 ^ 32) in
      elim (cases_Bool (is_immediate edition word)) [
        | inl is ↦ ap (λ (b : Bool). cond b word (cond (word == 0) 0 at)) is
        | inr plain ↦ ap (λ (b : Bool). cond b word (cond (word == 0) 0 at)) plain ∙ elim (leads plain) [
          | inl null ↦ ap (λ (w : ℕ). cond (w == 0) 0 (2 ^ 32 + live_below (set_bits bits) (w - 2 ^ 32))) null ∙ sym null
          | inr low ↦
              ap (λ (b : Bool). cond b 0 at) (ne_eqb word 0 (λ null. omega (arith, null, low.0)))
              ∙ omega (arith, below-dense (word - 2 ^ 32) low.1, low.0)
        ]
      ]

-- a value that is no immediate is null or an address
pub value-address : (edition : Edition) (marks : List ℕ) (word : ℕ) → IsValue edition marks word → is_immediate edition word ≡ false → (word ≡ 0) ⊎ (2 ^ 32 ≤ word)
value-address edition marks word value plain = elim (value-cases edition marks word value) [
  | inl immediate ↦ absurd (both_ways (is_immediate edition word) plain immediate)
  | inr target ↦ elim (target-cases marks word target) [
    | inl null ↦ inl null
    | inr marked ↦ inr (omega (arith, marked.2))
  ]
]
