use Rattle.std.proofs.Common.{ℕ, ◌+◌, List, fold, drop, sym, ap, ◌∙◌, arith}
use Rattle.std.proofs.Common.{below_more}
use Rattle.std.proofs.lemmas.List.{drop_more}
use Rattle.reachability.specs.Queue.{after_word}
use Rattle.young_heap.specs.Young.{is_above}
use Rattle.young_heap.proofs.Leads.{led-same, kept-on}
use Rattle.young_heap.proofs.meeting.meet_all_above.Goals as goal

pub loop-k-preserved : goal.loop-k-preserved
loop-k-preserved c =
    let words = c.args.words.now in
    let i = c.loop-k.k in
    let step = fold (after_word (is_above c.args.old c.args.count)) in
    record {
      queue = ap (λ (queue : List ℕ). step queue (drop (i + 1) words)) c.in_ok-meet_above.ensures.queue
          ∙ sym (ap (step c.loop-k.queue.items) (drop_more words i 0 (omega arith))) ∙ c.loop-k.invariant.queue;
      met = c.in_ok-meet_above.ensures.met;
      leads = below_more _ _ c.loop-k.invariant.leads
          (sym (led-same c.args.edition c.args.met.now c.loop-k.met c.args.old c.args.count _ c.loop-k.invariant.below) ∙ c.in_ok-meet_above.ensures.leads);
      once = c.in_ok-meet_above.ensures.once;
      below = kept-on c.args.old c.args.met.now c.loop-k.met c.meet_above.new.met c.loop-k.invariant.below c.meet_above.ensures.below;
      same = c.meet_above.ensures.length ∙ c.loop-k.invariant.same;
      room = omega (arith, c.meet_above.ensures.capacity, c.loop-k.invariant.room);
    }
