use Rattle.std.proofs.Common.{inl}
use Rattle.std.proofs.lemmas.Result.{err_from_is_err_and}
use Rattle.heap_layout.specs.Counted.{inner_of}
use Rattle.command_io.specs.Texts.{RefusesProgram}
use Rattle.command_io.specs.declared.refusal.Input.TheVariants.{Program}
use Rattle.command_io.proofs.Ended.{refused_file}
use Rattle.command_io.proofs.program.program_at.Goals as goal

pub returns-in_err-open-clause-cause : goal.returns-in_err-open-clause-cause
returns-in_err-open-clause-cause g c =
    let p = err_from_is_err_and c.from_residual.result c.from_residual.ensures.1 in
    rw (p.1, p.2) (inl c.in_err-open.ensures.cause)

pub returns-clause-cause : goal.returns-clause-cause
returns-clause-cause g c =
    refused_file (g.F.Files.disk c.args.files.now) Program c.args.path.now g.F.Reader.Read.remaining c.in_ok-open.field-0 (inner_of c.new-reader.result) RefusesProgram
    c.program_in-read.result c.end_reading.result c.in_ok-open.ensures.given c.new-reader.ensures.inner c.program_in-read.ensures.cause c.end_reading.ensures.same
