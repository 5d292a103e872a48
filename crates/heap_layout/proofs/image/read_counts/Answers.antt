use Rattle.std.proofs.Common.{sym, subst, arith}
use Rattle.std.proofs.lemmas.Result.{err_from_is_err_and}
use Rattle.std.specs.Io.KnownBytes.{Consumes}
use Rattle.heap_layout.proofs.Numbers.{counts_read}
use Rattle.heap_layout.proofs.Reading.{size_fault, over_limit}
use Rattle.heap_layout.proofs.image.read_counts.Goals as goal

pub returns-in_err-check_sizes-clause-cause : goal.returns-in_err-check_sizes-clause-cause
returns-in_err-check_sizes-clause-cause g c =
    let p = err_from_is_err_and c.from_residual-in_err-check_sizes.result c.from_residual-in_err-check_sizes.ensures.1 in
    let words = c.read_u32-words.result in
    let marks = c.read_u32-marks.result in
    let roots = c.read_u32-roots.result in
    let same = counts_read c.read_part.new.buf 8 4 words marks roots c.read_part.ensures.small (omega arith) (omega arith) (omega arith)
    c.read_u32-words.ensures c.read_u32-marks.ensures c.read_u32-roots.ensures in
    let large = size_fault c.args.edition words marks roots _ c.in_err-check_sizes.ensures in
    rw (p.1, p.2, large.0)
    (over_limit _ _ c.args.edition words marks roots (subst (Consumes _ _) (sym same) c.in_ok-read_part.ensures.read)
    (record { words_fit = omega arith; marks_fit = omega arith; roots_fit = omega arith; over = large.1 }))

pub returns-clause-read : goal.returns-clause-read
returns-clause-read g c =
    let same = counts_read c.read_part.new.buf 8 4 c.read_u32-words.result c.read_u32-marks.result c.read_u32-roots.result c.read_part.ensures.small (omega arith) (omega arith) (omega arith)
    c.read_u32-words.ensures c.read_u32-marks.ensures c.read_u32-roots.ensures in
    subst (Consumes _ _) (sym same) c.in_ok-read_part.ensures.read
