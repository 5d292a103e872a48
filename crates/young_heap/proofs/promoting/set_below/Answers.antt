use Rattle.std.proofs.Common.{◌≡◌, ◌+◌, ◌*◌, true, inl, inr, ◌∙◌, arith}
use Rattle.std.proofs.lemmas.Bool.{both_ways, cases_Bool}
use Rattle.std.proofs.lemmas.List.{get_or_append_left, length-take-le}
use Rattle.heap_layout.specs.Bits.{bit}
use Rattle.young_heap.proofs.Fronts.{bit-left}
use Rattle.young_heap.proofs.Staying.{ones-below}
use Rattle.young_heap.proofs.promoting.set_below.Goals as goal

pub returns-clause-ones : goal.returns-clause-ones
returns-clause-ones c = λ i lt.
    let run = c.take_run.ensures in
    let blocks = c.div_ceil-blocks.ensures in
    let front = length-take-le c.div_ceil-blocks.result c.args.bits.now (omega (arith, blocks, c.requires.room)) in
    let is : c.take_run.result ≡ true = elim (cases_Bool c.take_run.result) [
      | inl taken ↦ taken
      | inr not ↦ absurd (let at = run.taken not in both_ways (bit c.clear_from.new.bits at.0) (c.clear_from.ensures.none at.0 at.1) at.3)
    ] in
    bit-left c.take_run.new.bits _ i (omega (arith, lt, run.length, c.clear_from.ensures.length, blocks, front))
    ∙ run.inside is i (omega arith) (omega (arith, lt))

pub returns-clause-offsets : goal.returns-clause-offsets
returns-clause-offsets c = λ b le.
    let run = c.take_run.ensures in
    let blocks = c.div_ceil-blocks.ensures in
    let n = c.div_ceil-blocks.result in
    let front = length-take-le n c.args.bits.now (omega (arith, blocks, c.requires.room)) in
    let counts = length-take-le (n + 1) c.args.counts.now (omega (arith, blocks, c.requires.room, c.requires.counts_long)) in
    let is : c.take_run.result ≡ true = elim (cases_Bool c.take_run.result) [
      | inl taken ↦ taken
      | inr not ↦ absurd (let at = run.taken not in both_ways (bit c.clear_from.new.bits at.0) (c.clear_from.ensures.none at.0 at.1) at.3)
    ] in
    get_or_append_left c.recount.new.offsets _ 0 b (omega (arith, le, c.recount.ensures.long, counts, blocks))
    ∙ c.recount.ensures.offsets.before b (omega (arith, le, run.length, c.clear_from.ensures.length, blocks, front))
    ∙ ones-below (bit c.take_run.new.bits) (64 * b) (λ j lt. run.inside is j (omega arith) (omega (arith, lt, le)))
