use Rattle.std.proofs.Common.{◌≡◌, ◌*◌, length, ◌∙◌, arith}
use Rattle.std.proofs.lemmas.List.{get_or_default}
use Rattle.heap_layout.specs.Bits.{bit}
use Rattle.mark_tables.specs.MarkBitmap.{passing}
use Rattle.rest_marks.proofs.Counts.{counted-few}
use Rattle.rest_slide.proofs.trying.all_below.Goals as goal

pub returns-else-i-bits-clause-few : goal.returns-else-i-bits-clause-few
returns-else-i-bits-clause-few c =
    let bits = c.args.bits.now in
    let all : c.from.result ≡ length (passing (bit bits) (64 * length bits)) =
    c.from.ensures ∙ get_or_default c.args.counts.now (length bits) _ 0 (omega (arith, c.requires.long)) ∙ c.requires.before (length bits) (omega arith) in
    omega (arith, all, counted-few bits (length bits), c.requires.few)
