-- A word that no object has is 0 at the end of a cycle.
use Rattle.std.proofs.Common.{◌≡◌, ◌≢◌, ℕ, ◌*◌, ◌<◌, Option, Some, None, refl, ap, ◌∙◌, arith}
use Rattle.heap_layout.specs.Heap.{IsClosed}
use Rattle.heap_layout.specs.declared.kind.Kind.{Kind}
use Rattle.heap_layout.specs.declared.kind.Kind.TheVariants.{Header, Reference, Weak, Data}
use Rattle.comp_cycles.specs.Setup.{Setup, pages}
use Rattle.comp_cycles.specs.Locks.{Journals}
use Rattle.comp_cycles.specs.Merged.{CanMerge}
use Rattle.comp_cycles.specs.NextHeap.{kind_in, lowered_as, next_word, word_in}
use Rattle.comp_cycles.proofs.Finals.{field_within, is_object, none_is_zero}
use Rattle.stopped_cycles.specs.Outside.{IsOutside}

module _ (u : Setup) (journals : Journals) (closed : IsClosed u.heap) (can : CanMerge u journals) where
  -- a field is in an object
  within : (i : ℕ) (k : Kind) → k ≢ Header → i < 64 * pages u → kind_in u journals i ≡ Some k → IsOutside u journals i → ⊥
  within i k other lt is out =
      let w = field_within u journals closed can i k other lt is in
      let start = is_object u journals closed can w.start (omega (arith, w.above, lt)) w.stands.first in
      out w.start start (omega (arith, w.above)) w.below

  by_kind : (i : ℕ) (k : Option Kind) → i < 64 * pages u → kind_in u journals i ≡ k → IsOutside u journals i → k ≡ None
  by_kind i None lt is out = refl
  by_kind i (Some Header) lt is out = absurd (out i (is_object u journals closed can i lt is) (omega arith) (omega arith))
  by_kind i (Some Reference) lt is out = absurd (within i Reference (λ (same : Reference ≡ Header). cc) lt is out)
  by_kind i (Some Weak) lt is out = absurd (within i Weak (λ (same : Weak ≡ Header). cc) lt is out)
  by_kind i (Some Data) lt is out = absurd (within i Data (λ (same : Data ≡ Header). cc) lt is out)

  -- a word that no object has is of no kind
  none_outside : (i : ℕ) → i < 64 * pages u → IsOutside u journals i → kind_in u journals i ≡ None
  none_outside i lt out = by_kind i (kind_in u journals i) lt refl out

  pub zero_outside : (i : ℕ) → i < 64 * pages u → IsOutside u journals i → word_in u journals i ≡ 0
  zero_outside i lt out = none_is_zero u journals closed can i (none_outside i lt out)

  pub next_zero : (i : ℕ) → i < 64 * pages u → IsOutside u journals i → next_word u journals i ≡ 0
  next_zero i lt out =
      ap (λ (k : Option Kind). lowered_as u.heap.edition k (word_in u journals i)) (none_outside i lt out) ∙ zero_outside i lt out
