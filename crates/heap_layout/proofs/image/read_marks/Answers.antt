use Rattle.std.proofs.Common.{◌≡◌, ◌+◌, ◌++◌, ◌*◌, ◌^◌, ◌<◌, ◌≤◌, ℕ, List, All, length, sym, refl, ap, subst, ◌∙◌, arith, length-take}
use Rattle.std.proofs.lemmas.List.Elements.{All-nil}
use Rattle.std.specs.Io.KnownBytes.{Consumes}
use Rattle.std.specs.List.{flat_map}
use Rattle.std.proofs.KnownBytes.{Consumes-nil, Consumes-trans}
use Rattle.heap_layout.specs.Counted.{inner_of}
use Rattle.heap_layout.specs.Encoding.{four_bytes}
use Rattle.heap_layout.specs.declared.fault.LayoutFault.TheVariants.{OutOfMemory}
use Rattle.heap_layout.proofs.Numbers.{length-pieces}
use Rattle.heap_layout.proofs.Reading.{ends_behind, cut_for_memory, handed_on, failure_handed_on}
use Rattle.heap_layout.proofs.image.read_marks.Goals as goal

pub loop-marks-init : goal.loop-marks-init
loop-marks-init g c =
    let none = sym c.in_ok-marks.ensures.items in
    let bytes = g.R.Read.remaining (inner_of c.args.r.now) in
    record {
      few = omega (arith, c.in_ok-marks.ensures.len);
      piece = omega (arith, c.in_ok-piece.ensures.len, c.min.ensures);
      small = subst (λ (numbers : List ℕ). All (λ n. n < 2 ^ 32) numbers) none (All-nil _);
      read = subst (Consumes bytes bytes) (ap (flat_map four_bytes) none) (Consumes-nil bytes);
      none_failed = refl;
    }

pub returns-in_err-marks-clause-cut : goal.returns-in_err-marks-clause-cut
returns-in_err-marks-clause-cut g c = handed_on _ _ OutOfMemory c.from_residual.ensures.1 (cut_for_memory _ (4 * c.args.count))

pub returns-in_err-marks-clause-counts : goal.returns-in_err-marks-clause-counts
returns-in_err-marks-clause-counts g c = failure_handed_on _ _ _ _ OutOfMemory c.from_residual.ensures.1 refl refl

pub returns-in_err-piece-clause-cut : goal.returns-in_err-piece-clause-cut
returns-in_err-piece-clause-cut g c = handed_on _ _ OutOfMemory c.from_residual-in_err-piece.ensures.1 (cut_for_memory _ (4 * c.args.count))

pub returns-in_err-piece-clause-counts : goal.returns-in_err-piece-clause-counts
returns-in_err-piece-clause-counts g c = failure_handed_on _ _ _ _ OutOfMemory c.from_residual-in_err-piece.ensures.1 refl refl

pub returns-in_err-read_part-clause-cut : goal.returns-in_err-read_part-clause-cut
returns-in_err-read_part-clause-cut g c =
    let done = c.loop-marks.marks.items in
    let known = length-pieces four_bytes 4 (λ _. refl) done in
    let count = c.loop-marks.marks.ok.0 in
    let long : length (flat_map four_bytes done) + 4 * c.min-n.result ≤ 4 * c.args.count = omega arith in
    handed_on _ _ _ c.from_residual-in_err-read_part.ensures.1
    (ends_behind _ _ (flat_map four_bytes done) _ (4 * c.args.count) _ c.loop-marks.invariant.read (omega (arith, length-take {A = ℕ})) c.in_err-read_part.ensures.cut)

pub returns-in_err-read_part-clause-counts : goal.returns-in_err-read_part-clause-counts
returns-in_err-read_part-clause-counts g c =
    failure_handed_on _ _ _ _ _ c.from_residual-in_err-read_part.ensures.1 c.loop-marks.invariant.none_failed c.in_err-read_part.ensures.counts

pub returns-in_err-reserve-clause-cut : goal.returns-in_err-reserve-clause-cut
returns-in_err-reserve-clause-cut g c =
    handed_on _ _ OutOfMemory c.from_residual-in_err-reserve.ensures.1 (cut_for_memory _ (4 * c.args.count))

pub loop-marks-preserved : goal.loop-marks-preserved
loop-marks-preserved g c =
    let read = c.read_part.new.buf in
    let long : length read ≡ 4 * c.min-n.result = omega (arith, length-take {A = ℕ}) in
    let items = c.in_ok-reserve.ensures.items in
    record {
      few = omega arith;
      piece = c.loop-marks.invariant.piece;
      small = c.push_marks.ensures.small (subst (λ (numbers : List ℕ). All (λ n. n < 2 ^ 32) numbers) (sym items) c.loop-marks.invariant.small);
      read = subst (Consumes _ _) (sym (c.push_marks.ensures.bytes ∙ ap (λ (numbers : List ℕ). flat_map four_bytes numbers ++ read) items))
          (Consumes-trans _ _ _ (flat_map four_bytes c.loop-marks.marks.items) read c.loop-marks.invariant.read c.in_ok-read_part.ensures.read);
      none_failed = c.in_ok-read_part.ensures.counts ∙ c.loop-marks.invariant.none_failed;
    }

pub returns-clause-long : goal.returns-clause-long
returns-clause-long g c = omega (arith, c.loop-marks.marks.ok.0)

pub returns-clause-small : goal.returns-clause-small
returns-clause-small g c = c.loop-marks.invariant.small

pub returns-clause-read : goal.returns-clause-read
returns-clause-read g c = c.loop-marks.invariant.read

pub returns-clause-counts : goal.returns-clause-counts
returns-clause-counts g c = c.loop-marks.invariant.none_failed
