use Rattle.std.proofs.Common.{ℕ, List, subst}
use Rattle.heap_layout.specs.Counted.{inner_of}
use Rattle.comp_trace.specs.Traces.{lines_of}
use Rattle.comp_trace.specs.declared.text.line.Line.{Line}
use Rattle.command_io.specs.Texts.{HasLines}
use Rattle.command_io.proofs.EndedTexts.{ended_trace, of_whole}
use Rattle.command_io.proofs.Unread.{unread}
use Rattle.command_io.proofs.traces.trace_in.Goals as goal

pub returns-in-Err-OutOfMemory-clause-cause : goal.returns-in-Err-OutOfMemory-clause-cause
returns-in-Err-OutOfMemory-clause-cause g c = unread c.args.mutators c.args.roots (g.S.Read.remaining (inner_of c.args.r.now))

pub returns-clause-lines : goal.returns-clause-lines
returns-clause-lines g c =
    let mutators : ℕ = c.args.mutators in
    let roots : ℕ = c.args.roots in
    let lines : List Line = lines_of c.in_ok-parse.field-0 in
    let holds : HasLines mutators roots lines c.in-Ok.text.items = subst (HasLines mutators roots lines) c.deref.ensures.value c.in_ok-parse.ensures.lines in
    of_whole (HasLines mutators roots lines) (g.S.Read.remaining (inner_of c.args.r.now)) c.in-Ok.text.items (ended_trace mutators roots lines) c.in-Ok.ensures.text holds
