use Rattle.comp_cycles.specs.Ends.{setup_in}
use Rattle.comp_cycles.specs.Finishes.{journals_of}
use Rattle.stopped_cycles.proofs.Outside.{next_zero, zero_outside}
use Rattle.stopped_cycles.proofs.laws.words_of_no_object_are_zero.Goals as goal

pub returns-clause-cycle : goal.returns-clause-cycle
returns-clause-cycle c = λ u journals i closed can lt out. zero_outside u journals closed can i lt out

pub returns-clause-next : goal.returns-clause-next
returns-clause-next c = λ u journals i closed can lt out. next_zero u journals closed can i lt out

pub returns-clause-end : goal.returns-clause-end
returns-clause-end c = λ heap f i end lt out.
    zero_outside (setup_in heap f) (journals_of f) end.closed end.finished.history.merges i lt out
