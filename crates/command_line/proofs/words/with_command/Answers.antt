use Rattle.std.proofs.Common.{◌≡◌, ◌∙◌, Result, Ok, IfOk, ap, ap₂, subst, rules}
use Rattle.std.proofs.lemmas.Result.{IfOk-weaker}
use Rattle.std.specs.declared.alloc.AllocError.{AllocError}
use Rattle.clap.specs.Words.{App, app_of, with_subcommand}
use Rattle.clap.specs.declared.builder.command.Command.{Command}
use Rattle.clap.proofs.SimpleLemmas.{plain_fields}
use Rattle.command_line.proofs.words.with_command.Goals as goal

pub returns : goal.returns
returns c =
    let program : c.args.program ≡ Ok c.in_ok-program.field-0 = search rules in
    let command : c.args.command ≡ Ok c.in_ok-command.field-0 = search rules in
    λ app added is adds plain.
    let before : app_of c.in_ok-program.field-0 ≡ app = subst (λ (r : Result Command AllocError). IfOk r (λ made. app_of made ≡ app)) program is in
    let after : app_of c.in_ok-command.field-0 ≡ added = subst (λ (r : Result Command AllocError). IfOk r (λ made. app_of made ≡ added)) command adds in
    IfOk-weaker c.subcommand.result _ _
    (λ made shape. shape.shape (plain_fields c.in_ok-command.field-0 (ap (λ (a : App). a.top.is_plain) after ∙ plain)).globals ∙ ap₂ with_subcommand before (ap (λ (a : App). a.top) after))
    c.subcommand.ensures
