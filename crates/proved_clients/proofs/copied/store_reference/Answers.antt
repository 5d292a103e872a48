use Rattle.std.proofs.Common.{rules, refl, sym, subst}
use Rattle.page_plan.specs.Kind.TheVariants.{Reference}
use Rattle.page_cells.specs.Passes.{MayRefer}
use Rattle.comp_mutator.specs.Mutators.{pass_of}
use Rattle.proved_clients.proofs.copied.store_reference.Goals as goal

pub returns : goal.returns
returns g c =
    let leads : MayRefer (pass_of c.args.m.now) c.get-value.result =
    subst (MayRefer (pass_of c.args.m.now)) (sym c.get-value.ensures.word) (c.requires.copied.references c.args.offset Reference refl c.requires.reference) in
    record { stored = search (rules, leads) }
