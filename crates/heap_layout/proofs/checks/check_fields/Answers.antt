use Rattle.std.proofs.Common.{◌∙◌, arith}
use Rattle.std.proofs.lemmas.Result.{err_from_is_err_and}
use Rattle.heap_layout.specs.Bits.{leads}
use Rattle.heap_layout.specs.Values.{or_immediate}
use Rattle.heap_layout.proofs.Marked.{fields-next, first-reported, rest-reported}
use Rattle.heap_layout.proofs.checks.check_fields.Goals as goal

pub returns-in_err-check_references : goal.returns-in_err-check_references
returns-in_err-check_references c =
    let all = fields-next c.args.kind c.args.edition (or_immediate c.args.edition (leads c.args.bits.now)) c.args.words.now c.args.marks.now c.loop-mark.mark-index _ _ _ (omega arith) c.from_word_of-header.ensures c.first.ensures c.count-count.ensures.count ∙ c.loop-mark.invariant in
    let p = err_from_is_err_and c.from_residual.result c.from_residual.ensures.1 in
    rw (p.1, p.2) (first-reported _ _ _ _ all c.in_err-check_references.ensures)

pub loop-mark-preserved : goal.loop-mark-preserved
loop-mark-preserved c =
    let all = fields-next c.args.kind c.args.edition (or_immediate c.args.edition (leads c.args.bits.now)) c.args.words.now c.args.marks.now c.loop-mark.mark-index _ _ _ (omega arith) c.from_word_of-header.ensures c.first.ensures c.count-count.ensures.count ∙ c.loop-mark.invariant in
    rest-reported _ _ _ all c.in_ok-check_references.ensures
