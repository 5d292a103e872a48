use Rattle.std.proofs.Common.{sym, subst, rules}
use Rattle.comp_mutator.specs.Lists.{Each}
use Rattle.comp_mutator.proofs.Sums.{each-snoc}
use Rattle.comp_sweep.specs.Queues.{IsNew}
use Rattle.comp_sweep.proofs.Tallies.{new_distributed, new_taken}
use Rattle.comp_sweep.proofs.splitting.empty_queues.Goals as goal

pub loop-preserved : goal.loop-preserved
loop-preserved c = record {
  count = search rules;
  room = search rules;
  new = subst (λ l. Each l IsNew) (sym c.push_reserved.ensures.items) (each-snoc IsNew c.loop.queues.items c.in_ok-new.field-0 c.loop.invariant.new c.in_ok-new.ensures);
}

pub returns-clause-distributed : goal.returns-clause-distributed
returns-clause-distributed c = new_distributed c.loop.queues.items c.loop.invariant.new

pub returns-clause-none : goal.returns-clause-none
returns-clause-none c = λ x. new_taken x c.loop.queues.items c.loop.invariant.new
