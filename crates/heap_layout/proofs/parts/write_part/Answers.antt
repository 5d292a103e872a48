use Rattle.std.proofs.Common.{◌∙◌, ◌-◌, ◌<◌, ◌++◌, ap, length, sym, subst, take, drop, rules, arith}
use Rattle.std.proofs.lemmas.List.{take_rest}
use Rattle.std.proofs.lemmas.Result.{err_from_is_err_and}
use Rattle.std.proofs.Math.Seq.{take-add}
use Rattle.std.specs.Io.KnownBytes.{Appends}
use Rattle.std.proofs.KnownBytes.{Appends-kept, Appends-trans}
use Rattle.heap_layout.specs.Counted.{one_more}
use Rattle.heap_layout.proofs.Taken.{none_kept, rest_not_empty}
use Rattle.heap_layout.proofs.parts.write_part.Goals as goal

pub loop-taken-preserved : goal.loop-taken-preserved
loop-taken-preserved g c =
    let taken = c.loop-taken.taken in
    let part = c.args.part.now in
    let n = c.in_ok-n.n in
    let rest = take (length part - taken) (drop taken part) in
    let front = take taken part in
    record {
      within = search rules;
      written = subst (Appends _ _) (ap (λ more. front ++ take n more) (take_rest part taken) ∙ sym (take-add taken n part))
          (Appends-trans _ _ _ front (take n rest) c.loop-taken.invariant.written c.in_ok-n.ensures.bytes);
      none_failed = let more : 0 < n = omega (arith, c.if-n-eq0.false) in c.in_ok-n.ensures.taken more ∙ c.loop-taken.invariant.none_failed;
    }

pub returns-in_err-n-clause-writes : goal.returns-in_err-n-clause-writes
returns-in_err-n-clause-writes g c =
    let p = err_from_is_err_and c.from_residual.result c.from_residual.ensures.1 in
    rw p.1 (record { taken = c.loop-taken.taken; bytes = Appends-kept _ _ _ _ c.loop-taken.invariant.written c.in_err-n.ensures.bytes })

pub returns-in_err-n-clause-counts : goal.returns-in_err-n-clause-counts
returns-in_err-n-clause-counts g c =
    let p = err_from_is_err_and c.from_residual.result c.from_residual.ensures.1 in
    rw p.1 (c.in_err-n.ensures.err ∙ ap one_more c.loop-taken.invariant.none_failed)

pub returns-then-n-eq0-clause-writes : goal.returns-then-n-eq0-clause-writes
returns-then-n-eq0-clause-writes g c = record {
  taken = c.loop-taken.taken;
  bytes = Appends-kept _ _ _ _ c.loop-taken.invariant.written (none_kept _ _ c.in_ok-n.n _ c.if-n-eq0.true c.in_ok-n.ensures.bytes);
}

pub returns-then-n-eq0-clause-counts : goal.returns-then-n-eq0-clause-counts
returns-then-n-eq0-clause-counts g c =
    c.in_ok-n.ensures.none_taken c.if-n-eq0.true (rest_not_empty _ _ c.loop-taken-test.true) ∙ ap one_more c.loop-taken.invariant.none_failed
