use Rattle.std.proofs.Common.{Option, inl, refl, sym, subst}
use Rattle.beside_handle.specs.Looks.{BeginsLooks}
use Rattle.handle_base.specs.declared.kept.Kept.{Kept}
use Rattle.handle_base.proofs.TurnedKept.{empty_of}
use Rattle.beside_handle.proofs.looks.begin_looks.Goals as goal

pub returns-in-Some : goal.returns-in-Some
returns-in-Some c =
    let old = c.args.out.now.kept in
    subst (λ (o : Option Kept). BeginsLooks c.args.edition c.args.count c.args.roots.now o c.begin.new.out.kept c.begin.result)
    (sym (empty_of c.is_full.result old old c.is_full.ensures.full refl c.if-is_full.false))
    (inl (c.in-Some.found, c.in-Some.ensures.found, c.begin.ensures))
