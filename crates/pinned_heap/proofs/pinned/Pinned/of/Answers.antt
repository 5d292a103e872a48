use Rattle.std.proofs.Common.{◌≡◌, ℕ, ◌^◌, ◌≤◌, List, length, get_or, sym, subst, ◌∙◌, arith}
use Rattle.std.proofs.lemmas.List.{with_items_is}
use Rattle.heap_layout.specs.Heap.{is_start}
use Rattle.rest_marks.specs.Surveys.{marks_of}
use Rattle.pinned_heap.specs.Around.{stays as is_pinned}
use Rattle.pinned_heap.specs.Pinned.{is_object}
use Rattle.pinned_heap.specs.Tables.{is_pin}
use Rattle.pinned_heap.proofs.Found.{pin-object, still-pins}
use Rattle.pinned_heap.proofs.pinned.Pinned.of.Goals as goal

pub returns-in-Err-clause-fault : goal.returns-in-Err-clause-fault
returns-in-Err-clause-fault c =
    let heads = c.live_bits.result.heads.now in
    let found = c.args.places.now in
    let pins = c.args.pins.now in
    let few : length heads ≤ 2 ^ 25 = omega (arith, c.live_bits.ensures.offsets.few, c.live_bits.ensures.same) in
    let same : (word : ℕ) → is_pin c.edition.result heads word ≡ is_object found word = λ word. pin-object c.edition.result heads found word few c.live_bits.ensures.marks in (
      c.in-Err.ensures.known,
      sym (same (get_or pins c.in-Err.k 0)) ∙ c.in-Err.ensures.bad,
      λ j lt. sym (same (get_or pins j 0)) ∙ c.in-Err.ensures.good j lt,
    )

pub returns-clause-staying : goal.returns-clause-staying
returns-clause-staying c =
    let bits = c.pin_all.new.stays in
    let same = with_items_is c.in_ok-stays.stays bits (c.in_default.ensures.length ∙ c.deref_mut.ensures.len) in
    subst (λ (xs : List ℕ). (i : ℕ) → is_start (marks_of xs) i ≡ is_pinned c.args.pins.now i) (sym same) (still-pins bits c.args.pins.now c.in_default.ensures.pinned)

pub returns-clause-objects : goal.returns-clause-objects
returns-clause-objects c = λ i lt.
    let heads = c.live_bits.result.heads.now in
    let found = c.args.places.now in
    let few : length heads ≤ 2 ^ 25 = omega (arith, c.live_bits.ensures.offsets.few, c.live_bits.ensures.same) in
    let same : (word : ℕ) → is_pin c.edition.result heads word ≡ is_object found word = λ word. pin-object c.edition.result heads found word few c.live_bits.ensures.marks in
    sym (same (get_or c.args.pins.now i 0)) ∙ c.in_default.ensures.good i lt
