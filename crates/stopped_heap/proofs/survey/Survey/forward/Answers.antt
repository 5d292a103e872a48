use Rattle.std.proofs.Common.{◌≡◌, ℕ, ◌+◌, ◌-◌, ◌^◌, true, false, Some, None, List, sym, ap, subst, ◌∙◌}
use Rattle.std.specs.Option.{option_map}
use Rattle.heap_layout.specs.Bits.{bit}
use Rattle.heap_layout.specs.Heap.{Heap, live}
use Rattle.heap_layout.specs.Values.{is_immediate}
use Rattle.mark_tables.specs.MarkBitmap.{set_bits}
use Rattle.mark_tables.specs.LiveWords.{live_below}
use Rattle.page_plan.specs.Sliding.{forward_value}
use Rattle.reachability.specs.Queue.{is_address}
use Rattle.rest_slide.specs.Settled.{lowered}
use Rattle.rest_marks.specs.Surveys.{heap_of}
use Rattle.rest_slide.proofs.Settling.{forward-found, forward-lost}
use Rattle.stopped_heap.proofs.survey.Survey.forward.Goals as goal

pub returns-then-not-is_kept : goal.returns-then-not-is_kept
returns-then-not-is_kept c =
    let word = c.args.word in
    let inside = c.self.inside in
    let kept : is_address (bit inside.heads.items) word ≡ false = ap (λ (heads : List ℕ). is_address (bit heads) word) (sym c.deref.ensures.value) ∙ sym c.is_kept.ensures ∙ c.if-not-is_kept.true in
    let plain : is_immediate inside.edition word ≡ false = sym c.is_immediate.ensures ∙ c.if-is_immediate.false in
    subst (λ (heap : Heap). None ≡ option_map (lowered heap.edition) (forward_value heap.edition (live heap) word)) (ap heap_of c.self.view_is)
    (forward-lost inside.edition inside.words.now inside.heads.items inside.bits.items inside.counts.items c.self.invariant.0 word plain c.if-word-eq0.false kept)

pub returns : goal.returns
returns c =
    let word = c.args.word in
    let inside = c.self.inside in
    let kept : is_address (bit inside.heads.items) word ≡ true = ap (λ (heads : List ℕ). is_address (bit heads) word) (sym c.deref.ensures.value) ∙ sym c.is_kept.ensures ∙ c.if-not-is_kept.false in
    let plain : is_immediate inside.edition word ≡ false = sym c.is_immediate.ensures ∙ c.if-is_immediate.false in
    let counted : c.below.result ≡ live_below (set_bits inside.bits.items) (word - 2 ^ 32) =
    c.below.ensures.below ∙ ap (λ (bits : List ℕ). live_below (set_bits bits) (word - 2 ^ 32)) c.deref-2.ensures.value in
    subst (λ (heap : Heap). Some (2 ^ 32 + c.below.result) ≡ option_map (lowered heap.edition) (forward_value heap.edition (live heap) word)) (ap heap_of c.self.view_is)
    (ap (λ (n : ℕ). Some (2 ^ 32 + n)) counted
    ∙ forward-found inside.edition inside.words.now inside.heads.items inside.bits.items inside.counts.items c.self.invariant.0 word plain kept)
