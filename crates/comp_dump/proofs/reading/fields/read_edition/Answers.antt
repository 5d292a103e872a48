use Rattle.std.proofs.Common.{sym, ap, subst, arith, ◌∙◌}
use Rattle.std.proofs.lemmas.Result.{err_from_is_err_and}
use Rattle.std.specs.Io.KnownBytes.{Consumes}
use Rattle.comp_dump.specs.DumpEncoding.{four_bytes}
use Rattle.comp_dump.proofs.Fields.{stops_edition, stops_version, four_read}
use Rattle.comp_dump.proofs.reading.fields.read_edition.Goals as goal

pub returns-in_err-read_part-clause-cause : goal.returns-in_err-read_part-clause-cause
returns-in_err-read_part-clause-cause g c =
    let p = err_from_is_err_and c.from_residual.result c.from_residual.ensures.1 in
    rw (p.1, p.2) (stops_edition c.args.large _ _ c.in_err-read_part.ensures.cut)

pub returns-in-Some-clause-read : goal.returns-in-Some-clause-read
returns-in-Some-clause-read g c =
    let bytes = four_read c.read_part.new.buf c.read_u32.result c.read_part.ensures.small (omega arith) c.read_u32.ensures in
    subst (Consumes _ _) (sym bytes ∙ ap four_bytes (sym c.in-Some.ensures.found)) c.in_ok-read_part.ensures.read

pub returns-in-None-clause-cause : goal.returns-in-None-clause-cause
returns-in-None-clause-cause g c =
    stops_version c.args.large c.read_u32.result _ _ _ c.in_ok-read_part.ensures.read (omega arith) c.read_u32.ensures c.in-None.ensures.none
