use Rattle.std.proofs.Common.{ℕ, IfOk, refl, subst, sym}
use Rattle.std.proofs.lemmas.Result.{IfErr-weaker, IfOk-weaker}
use Rattle.comp_mutator.specs.Finishes.{IsOfFlip}
use Rattle.comp_mutator.specs.Mutators.{setup_of}
use Rattle.commands.specs.HeapTasks.{IsOfSweeping}
use Rattle.commands.proofs.Swept.{none_missing, swept_heap}
use Rattle.commands.proofs.compact.sweep_and_finish.Goals as goal

pub finish_all-requires-clause-all : goal.finish_all-requires-clause-all
finish_all-requires-clause-all g c = none_missing c.args.space c.args.mutators.items c.in-Ok.report.mutators.items c.requires.new c.in-Ok.ensures.back

pub returns-clause-swept : goal.returns-clause-swept
returns-clause-swept g c = IfOk-weaker c.finish_all.result _ _
    (λ f ordered. swept_heap c.args.space c.args.mutators.items c.in-Ok.report.mutators.items c.requires.new c.in-Ok.ensures.back f c.requires.compacted c.requires.no_fresh c.in-Ok.ensures.built ordered)
    c.finish_all.ensures.ordered

pub returns-clause-flipped : goal.returns-clause-flipped
returns-clause-flipped g c = subst (λ (n : ℕ). IfOk c.finish_all.result (IsOfFlip (setup_of c.args.space).mutators n)) c.requires.no_fresh c.finish_all.ensures.flipped

pub returns-clause-cause : goal.returns-clause-cause
returns-clause-cause g c = IfErr-weaker c.finish_all.result _ _ (λ refusal is. subst (IsOfSweeping (setup_of c.args.space).heap) (sym is) refl) c.finish_all.ensures.cause
