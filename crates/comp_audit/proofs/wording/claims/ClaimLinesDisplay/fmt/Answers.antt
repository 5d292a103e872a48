use Rattle.std.proofs.Common.{rules, sym, slice_index}
use Rattle.std.proofs.Output.{has_written_append, has_written_of_eq}
use Rattle.comp_audit.specs.Wording.{claim_line}
use Rattle.comp_audit.proofs.Worded.{lines-next}
use Rattle.comp_audit.proofs.wording.claims.ClaimLinesDisplay.fmt.Goals as goal

pub loop-mutator-preserved : goal.loop-mutator-preserved
loop-mutator-preserved g c = λ plain.
    has_written_of_eq _ _ _ _ _ (sym (lines-next (λ k. claim_line k (slice_index c.args.self.now.0.now k)) c.loop-mutator.mutator))
    (let before = c.loop-mutator.invariant plain in has_written_append _ _ _ _ _ _ before (c.write.ensures.writes before.plain (search rules)))
