use Rattle.command_io.proofs.Written.{kept_all}
use Rattle.command_io.proofs.keeping.keep_all.Goals as goal

pub returns-in-Ok-clause-kept : goal.returns-in-Ok-clause-kept
returns-in-Ok-clause-kept g c =
    kept_all (g.F.Files.disk c.args.files.now) g.F.Writer.Write.contents c.args.output c.args.path.now c.args.written _ c.keep.new.self c.keep.result c.in-Ok.ensures.kept c.in-Ok.ensures.uncounted c.keep.ensures.kept
