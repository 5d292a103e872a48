use Rattle.std.proofs.Common.{◌+◌, ◌-◌, ◌<◌, ◌^◌, ℕ, List, ◌++◌, length, take, get_or, refl, sym, subst, arith, length-append, length-take}
use Rattle.std.proofs.lemmas.List.{take_all}
use Rattle.std.specs.Io.KnownBytes.{Consumes}
use Rattle.std.proofs.KnownBytes.{Consumes-nil, Consumes-trans, Consumes-whole}
use Rattle.heap_layout.proofs.Reading.{small_take, take_filled}
use Rattle.heap_layout.proofs.parts.fill.Goals as goal

pub loop-filled-init : goal.loop-filled-init
loop-filled-init g c = record { within = omega arith; read = Consumes-nil _; small = λ i. omega (arith, c.type_inv.buf i); none_failed = refl }

pub returns-in-Ok-eq0-clause-cut : goal.returns-in-Ok-eq0-clause-cut
returns-in-Ok-eq0-clause-cut g c =
    let bytes = c.in-Ok-eq0.ensures.bytes in
    let front = take c.loop-filled.filled c.loop-filled.buf in
    let last = take c.in-Ok-eq0.field-0 c.read.new.buf in
    let end = bytes.1 c.in-Ok-eq0.field-0-test (omega arith) in
    Consumes-whole _ _ (front ++ last) (λ (read : List ℕ). length read < length c.args.buf.now)
    (Consumes-trans _ _ _ front last c.loop-filled.invariant.read bytes.0)
    end
    (simp (length-append, length-take) (omega arith))

pub returns-in-Ok-eq0-clause-ended : goal.returns-in-Ok-eq0-clause-ended
returns-in-Ok-eq0-clause-ended g c =
    let filled = c.loop-filled.filled in
    let buf = c.loop-filled.buf in
    let n = c.in-Ok-eq0.field-0 in
    let bytes = c.in-Ok-eq0.ensures.bytes in
    let small : (i : ℕ) → get_or (take filled buf ++ take n c.read.new.buf) i 0 < 2 ^ 8 =
    subst (λ (part : List ℕ). (i : ℕ) → get_or part i 0 < 2 ^ 8) (take_filled filled (length buf - filled) n buf c.read.new.buf (omega arith) (omega arith))
    (small_take (filled + n) _ (λ i. omega (arith, c.type_inv.buf i))) in
    λ _. Consumes-whole _ _ _ (λ (part : List ℕ). (i : ℕ) → get_or part i 0 < 2 ^ 8)
    (Consumes-trans _ _ _ (take filled buf) (take n c.read.new.buf) c.loop-filled.invariant.read bytes.0)
    (bytes.1 c.in-Ok-eq0.field-0-test (omega arith)) small

pub returns-in-Ok-eq0-clause-counts : goal.returns-in-Ok-eq0-clause-counts
returns-in-Ok-eq0-clause-counts g c = omega (arith, c.in-Ok-eq0.ensures.ok, c.loop-filled.invariant.none_failed)

pub loop-filled-preserved : goal.loop-filled-preserved
loop-filled-preserved g c =
    let filled = c.loop-filled.filled in
    let buf = c.loop-filled.buf in
    let n = c.in-Ok.n in
    let bound = c.in-Ok.ensures.bound in
    let bytes = c.in-Ok.ensures.bytes in
    record {
      within = search arith;
      read = subst (Consumes _ _) (sym (take_filled filled (length buf - filled) n buf c.read.new.buf (omega arith) (omega arith)))
          (Consumes-trans _ _ _ (take filled buf) (take n c.read.new.buf) c.loop-filled.invariant.read bytes.0);
      small = λ i. omega (arith, c.type_inv.buf i);
      none_failed = omega (arith, c.in-Ok.ensures.ok, c.loop-filled.invariant.none_failed);
    }

pub returns-in-Err-clause-counts : goal.returns-in-Err-clause-counts
returns-in-Err-clause-counts g c = omega (arith, c.in-Err.ensures.err, c.loop-filled.invariant.none_failed)

pub returns-clause-read : goal.returns-clause-read
returns-clause-read g c =
    subst (Consumes _ _) (take_all c.loop-filled.filled c.loop-filled.buf (omega arith)) c.loop-filled.invariant.read

pub returns-clause-counts : goal.returns-clause-counts
returns-clause-counts g c = c.loop-filled.invariant.none_failed

pub returns-clause-small : goal.returns-clause-small
returns-clause-small g c = c.loop-filled.invariant.small
