use Rattle.std.proofs.Common.{ℕ, ◌+◌, ◌*◌, List, get_or, set, refl, ap, ◌∙◌, arith}
use Rattle.std.proofs.lemmas.List.{length-set}
use Rattle.pinned_heap.specs.declared.run.Run.{Run}
use Rattle.rest_handle.proofs.RunWords.{one-more}
use Rattle.rest_handle.proofs.pinning.list_runs.Goals as goal

pub loop-k-preserved : goal.loop-k-preserved
loop-k-preserved c =
    let k = c.loop-k.k in
    let none : Run = record { start = 0; end = 0 } in
    let run = get_or c.args.runs.now k none in
    record {
      long = length-set (set c.loop-k.out (2 * k) run.start) (2 * k + 1) run.end ∙ length-set c.loop-k.out (2 * k) run.start ∙ c.loop-k.invariant.long;
      listed = ap (λ (xs : List ℕ). set (set xs (2 * k) run.start) (2 * k + 1) run.end) c.loop-k.invariant.listed
          ∙ one-more c.args.runs.now c.args.out.now k none run (omega (arith, c.loop-k-test.true)) c.requires refl;
    }
