use Rattle.std.proofs.Common.{ℕ, List, subst}
use Rattle.mark_job.specs.Asked.{IsBeginFault}
use Rattle.rest_handle.proofs.helping.job_of.Goals as goal

pub returns-in-Err-clause-fault : goal.returns-in-Err-clause-fault
returns-in-Err-clause-fault c =
    let edition = c.args.edition in
    let fault = c.in-Err.refused.fault in
    subst (λ (ws : List ℕ). IsBeginFault (record { edition = edition; words = ws; roots = c.args.roots.now }) fault) c.in_ok-words.ensures.items
    (subst (λ (rs : List ℕ). IsBeginFault (record { edition = edition; words = c.in_ok-words.words.items; roots = rs }) fault) c.in_ok-roots.ensures.items c.in-Err.ensures.fault)
