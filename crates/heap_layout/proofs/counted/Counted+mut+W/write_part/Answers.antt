use Rattle.std.proofs.Common.{◌∙◌, ◌-◌, ◌<◌, ◌++◌, ap, length, sym, subst, take, drop, rules, arith}
use Rattle.std.proofs.lemmas.List.{take_rest}
use Rattle.std.proofs.lemmas.Result.{MatchResult-from_err}
use Rattle.std.proofs.Math.Seq.{take-add}
use Rattle.std.specs.Io.KnownBytes.{Appends}
use Rattle.std.proofs.KnownBytes.{Appends-trans}
use Rattle.heap_layout.specs.Counted.{one_more}
use Rattle.heap_layout.proofs.Taken.{none_kept, beginning_taken, rest_not_empty, part_not_empty}
use Rattle.heap_layout.proofs.counted.Counted+mut+W.write_part.Goals as goal

pub loop-taken-preserved : goal.loop-taken-preserved
loop-taken-preserved g c =
    let taken = c.loop-taken.taken in
    let part = c.args.part.now in
    let n = c.in_ok-n.n in
    let rest = take (length part - taken) (drop taken part) in
    let front = take taken part in
    record {
      within = search rules;
      written = subst (Appends _ _) (ap (λ more. front ++ take n more) (take_rest part taken) ∙ sym (take-add taken n part))
          (Appends-trans _ _ _ front (take n rest) c.loop-taken.invariant.written c.in_ok-n.ensures.bytes);
      same_writer = c.in_ok-n.ensures.same_writer ∙ c.loop-taken.invariant.same_writer;
      unflushed = λ _. let more : 0 < n = omega (arith, c.if-n-eq0.false) in (c.in_ok-n.ensures.taken more).1;
      untouched = λ none. absurd (omega (arith, none, c.if-n-eq0.false));
      none_failed = let more : 0 < n = omega (arith, c.if-n-eq0.false) in (c.in_ok-n.ensures.taken more).0 ∙ c.loop-taken.invariant.none_failed;
    }

pub returns-in_err-n-clause-begun : goal.returns-in_err-n-clause-begun
returns-in_err-n-clause-begun g c =
    let i = c.loop-taken.invariant in
    MatchResult-from_err _ _ _ c.from_residual.ensures.0
    (λ _. beginning_taken _ _ _ _ _ _ c.loop-taken.taken c.args.part.now c.loop-taken-test.true i.written c.in_err-n.ensures.bytes
    i.untouched i.unflushed c.in_err-n.ensures.refused)

pub returns-in_err-n-clause-err : goal.returns-in_err-n-clause-err
returns-in_err-n-clause-err g c =
    MatchResult-from_err _ _ _ c.from_residual.ensures.0 (λ _. c.in_err-n.ensures.err ∙ ap one_more c.loop-taken.invariant.none_failed)

pub returns-in_err-n-clause-empty : goal.returns-in_err-n-clause-empty
returns-in_err-n-clause-empty g c = λ none. absurd (part_not_empty _ _ c.loop-taken-test.true none)

pub returns-then-n-eq0-clause-begun : goal.returns-then-n-eq0-clause-begun
returns-then-n-eq0-clause-begun g c =
    let i = c.loop-taken.invariant in
    beginning_taken _ _ _ _ _ _ c.loop-taken.taken c.args.part.now c.loop-taken-test.true i.written
    (none_kept _ _ c.in_ok-n.n _ c.if-n-eq0.true c.in_ok-n.ensures.bytes) i.untouched i.unflushed (c.in_ok-n.ensures.flushed c.if-n-eq0.true)

pub returns-then-n-eq0-clause-err : goal.returns-then-n-eq0-clause-err
returns-then-n-eq0-clause-err g c =
    c.in_ok-n.ensures.none_taken c.if-n-eq0.true (rest_not_empty _ _ c.loop-taken-test.true) ∙ ap one_more c.loop-taken.invariant.none_failed

pub returns-then-n-eq0-clause-empty : goal.returns-then-n-eq0-clause-empty
returns-then-n-eq0-clause-empty g c = λ none. absurd (part_not_empty _ _ c.loop-taken-test.true none)
