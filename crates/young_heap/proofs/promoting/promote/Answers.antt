use Rattle.std.proofs.Common.{◌≡◌, ◌*◌, ◌<◌, true, inl, inr, sym, ◌∙◌, arith}
use Rattle.std.proofs.lemmas.Bool.{both_ways, cases_Bool, cases_lt}
use Rattle.heap_layout.specs.Bits.{bit}
use Rattle.young_heap.proofs.Staying.{ones-below}
use Rattle.young_heap.proofs.Walking.{row-before}
use Rattle.young_heap.proofs.promoting.promote.Goals as goal

pub recount-requires-clause-before : goal.recount-requires-clause-before
recount-requires-clause-before c = λ b le.
    let cleared = c.clear_from.ensures in
    let run = c.take_run.ensures in
    let is : c.take_run.result ≡ true = elim (cases_Bool c.take_run.result) [
      | inl taken ↦ taken
      | inr not ↦ absurd (let at = run.taken not in both_ways (bit c.clear_from.new.bits at.0) (cleared.none at.0 at.1) at.3)
    ] in
    c.requires.offsets b le
    ∙ sym (ones-below (bit c.take_run.new.bits) (64 * b) (λ j lt.
    let low : j < c.args.old = omega (arith, lt, le) in run.below j low ∙ cleared.below j low ∙ c.requires.ones j low))

pub returns-clause-ones : goal.returns-clause-ones
returns-clause-ones c = λ i lt.
    let cleared = c.clear_from.ensures in
    let run = c.take_run.ensures in
    let is : c.take_run.result ≡ true = elim (cases_Bool c.take_run.result) [
      | inl taken ↦ taken
      | inr not ↦ absurd (let at = run.taken not in both_ways (bit c.clear_from.new.bits at.0) (cleared.none at.0 at.1) at.3)
    ] in
    elim (cases_lt i c.args.old) [
      | inl low ↦ run.below i low ∙ cleared.below i low ∙ c.requires.ones i low
      | inr high ↦ run.inside is i high (omega (arith, lt, c.requires.order))
    ]

pub returns-clause-no_bits : goal.returns-clause-no_bits
returns-clause-no_bits c = λ i le.
    let cleared = c.clear_from.ensures in
    let run = c.take_run.ensures in
    let is : c.take_run.result ≡ true = elim (cases_Bool c.take_run.result) [
      | inl taken ↦ taken
      | inr not ↦ absurd (let at = run.taken not in both_ways (bit c.clear_from.new.bits at.0) (cleared.none at.0 at.1) at.3)
    ] in
    run.above is i (omega (arith, le, c.requires.order)) ∙ cleared.none i (omega (arith, le, c.requires.order))

pub returns-clause-offsets : goal.returns-clause-offsets
returns-clause-offsets c = λ b le.
    c.recount.ensures.offsets.before b (omega (arith, le, c.requires.inside, c.requires.room, c.requires.long, c.clear_from.ensures.length, c.take_run.ensures.length))
    ∙ ones-below (bit c.take_run.new.bits) (64 * b) (λ j lt. returns-clause-ones c j (omega (arith, lt, le)))

pub returns-clause-no_heads : goal.returns-clause-no_heads
returns-clause-no_heads c = λ i le.
    let heads = c.mark_starts.new.heads in
    elim (cases_Bool (bit heads i)) [
      | inr unset ↦ unset
      | inl set ↦ absurd (
          let row = c.mark_starts.ensures.starts i (omega (arith, le, c.requires.order)) set in
          omega (arith, row-before c.args.edition c.args.words.now c.args.live c.args.old i row, le))
    ]
