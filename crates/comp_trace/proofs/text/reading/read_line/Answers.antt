use Rattle.std.proofs.Common.{◌∙◌, ◌+◌, ◌∷◌, Ok, Result, List, ap}
use Rattle.std.proofs.lemmas.Result.{err_from_is_err_and}
use Rattle.comp_trace.specs.declared.text.fault.TraceFault.{TraceFault}
use Rattle.comp_trace.specs.declared.text.line.Line.{Line}
use Rattle.comp_trace.specs.Grammar.{◌>>=◌, parts, read_from}
use Rattle.comp_trace.proofs.LineForms.{bad_read}
use Rattle.comp_trace.proofs.NameForms.{bad_mutator, bad_name, bad_numbers, line_read}
use Rattle.comp_trace.proofs.text.reading.read_line.Goals as goal

pub returns-in_default-clause-fault : goal.returns-in_default-clause-fault
returns-in_default-clause-fault c = bad_read c.args.mutators c.args.roots c.args.n c.args.text.now c.requires (bad_mutator c.args.text.now c.in_default.ensures.none)

pub returns-in_default-read_name-clause-fault : goal.returns-in_default-read_name-clause-fault
returns-in_default-read_name-clause-fault c =
    let first = c.in-Some.ensures.some in
    bad_read c.args.mutators c.args.roots c.args.n c.args.text.now c.requires (bad_name c.args.text.now first.0 _ first.2 c.in_default-read_name.ensures.none)

pub returns-in_default-numbered_line-clause-fault : goal.returns-in_default-numbered_line-clause-fault
returns-in_default-numbered_line-clause-fault c =
    let first = c.in-Some.ensures.some in
    bad_read c.args.mutators c.args.roots c.args.n c.args.text.now c.requires
    (bad_numbers c.args.text.now first.0 _ _ _ first.2 c.in-Some-read_name.ensures.some c.in_default-numbered_line.ensures.none)

pub returns-in_err-line-clause-fault : goal.returns-in_err-line-clause-fault
returns-in_err-line-clause-fault c =
    let first = c.in-Some.ensures.some in
    let read = line_read c.args.mutators c.args.roots c.args.n c.args.text.now _ first.0 _ _ _ _ _ c.ranges.mutators.fits c.ranges.roots.fits first.1 first.2 c.in-Some-read_name.ensures.some
    c.in-Some-numbered_line.ensures.some in
    let p = err_from_is_err_and c.from_residual.result c.from_residual.ensures.1 in
    rw (p.1, p.2) (read.read ∙ ap (λ (r : Result Line TraceFault). r >>= (λ (l : Line). read_from c.args.mutators c.args.roots (c.args.n + 1) (parts 10 c.in-Some-numbered_line.rest.now) >>= (λ (ls : List Line). Ok (l ∷ ls)))) c.in_err-line.was)

pub returns-clause-line : goal.returns-clause-line
returns-clause-line c =
    let first = c.in-Some.ensures.some in
    let read = line_read c.args.mutators c.args.roots c.args.n c.args.text.now _ first.0 _ _ _ _ _ c.ranges.mutators.fits c.ranges.roots.fits first.1 first.2 c.in-Some-read_name.ensures.some
    c.in-Some-numbered_line.ensures.some in
    read.read ∙ ap (λ (r : Result Line TraceFault). r >>= (λ (l : Line). read_from c.args.mutators c.args.roots (c.args.n + 1) (parts 10 c.in-Some-numbered_line.rest.now) >>= (λ (ls : List Line). Ok (l ∷ ls)))) c.in_ok-line.was

pub returns-clause-within : goal.returns-clause-within
returns-clause-within c =
    let first = c.in-Some.ensures.some in
    let read = line_read c.args.mutators c.args.roots c.args.n c.args.text.now _ first.0 _ _ _ _ _ c.ranges.mutators.fits c.ranges.roots.fits first.1 first.2 c.in-Some-read_name.ensures.some
    c.in-Some-numbered_line.ensures.some in
    read.within c.in_ok-line.field-0 c.in_ok-line.was

pub returns-clause-less : goal.returns-clause-less
returns-clause-less c =
    let first = c.in-Some.ensures.some in
    (line_read c.args.mutators c.args.roots c.args.n c.args.text.now _ first.0 _ _ _ _ _ c.ranges.mutators.fits c.ranges.roots.fits first.1 first.2 c.in-Some-read_name.ensures.some
    c.in-Some-numbered_line.ensures.some).less
