use Rattle.std.proofs.Common.{◌∙◌, get_or, refl, arith}
use Rattle.std.proofs.lemmas.Result.{err_from_is_err_and}
use Rattle.reachability.proofs.Queues.{has-at}
use Rattle.stopped_heap.proofs.AskedAll.{asked-first, asked-next, asked-fault}
use Rattle.stopped_heap.proofs.checking.ask_all.Goals as goal

pub loop-k-init : goal.loop-k-init
loop-k-init c = record {
  asked = asked-first c.args.edition c.args.words.now c.args.heads.now c.args.objects.now c.args.taken.now;
  long = refl;
}

pub ask-requires-clause-inside : goal.ask-requires-clause-inside
ask-requires-clause-inside c =
    let objects = c.args.objects.now in
    let k = c.loop-k.k in
    c.requires.once.within (get_or objects k 0) (has-at objects k (omega (arith, c.loop-k-test.true, c.requires.many)))

pub loop-k-preserved : goal.loop-k-preserved
loop-k-preserved c =
    let objects = c.args.objects.now in
    let k = c.loop-k.k in
    let is = c.in_ok-ask.ensures in
    record {
      asked = asked-next c.args.edition c.args.words.now c.args.heads.now objects c.args.taken.now c.loop-k.taken c.ask.new.taken k (get_or objects k 0) refl c.loop-k.invariant.asked
          (record {
            placed = is.placed;
            references = is.references;
            weak = is.weak;
            free = is.free;
            set = is.set;
            stay = is.stay;
            only = is.only;
          });
      long = c.ask.ensures.length ∙ c.loop-k.invariant.long;
    }

pub returns-in_err-ask-clause-fault : goal.returns-in_err-ask-clause-fault
returns-in_err-ask-clause-fault c =
    let objects = c.args.objects.now in
    let k = c.loop-k.k in
    let fault = c.in_err-ask.field-0.0 in
    let cause = asked-fault c.args.edition c.args.words.now c.args.heads.now objects c.args.taken.now c.loop-k.taken k (get_or objects k 0) c.args.many fault refl
    (omega (arith, c.loop-k-test.true)) c.loop-k.invariant.asked c.in_err-ask.ensures.fault in
    let p = err_from_is_err_and c.from_residual.result c.from_residual.ensures.1 in
    rw (p.1, p.2) cause
