use Rattle.std.specs.List.{flat_map, range_with_len}
use Rattle.std.specs.Prelude.{slice_index}
use Rattle.std.specs.Fmt.{HasWritten, IsPlainFormatter}
use Rattle.comp_audit.specs.Wording.{claim_line}
use Rattle.comp_audit.proofs.wording.claims.ClaimLinesDisplay.fmt.Given as goal

abbrev pub invariant-loop-mutator : goal.invariant-loop-mutator
invariant-loop-mutator g l =
    IsPlainFormatter l.initial.f
    → HasWritten g.W.Write.write_str_gives l.initial.f (flat_map (λ k. claim_line k (slice_index l.self.0.now k)) (range_with_len 0 l.mutator)) l.f
