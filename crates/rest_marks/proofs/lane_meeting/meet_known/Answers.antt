use Rattle.std.proofs.Common.{[], ◌∷◌, get_or, refl, ◌∙◌, arith}
use Rattle.std.proofs.Common.{below_more}
use Rattle.rest_marks.specs.Lanes.{IsLedTo}
use Rattle.rest_marks.proofs.Laned.{kept-word, led-one, told-then, told-wide}
use Rattle.rest_marks.proofs.lane_meeting.meet_known.Goals as goal

pub loop-k-preserved : goal.loop-k-preserved
loop-k-preserved c =
    let inv = c.loop-k.invariant in
    let step = c.in_ok-meet.ensures in
    let words = c.args.words.now in
    let count = c.args.count in
    let k = c.loop-k.k in
    let word = get_or words k 0 in
    let led = IsLedTo count words in
    let told = told-wide (IsLedTo count (word ∷ [])) led c.loop-k.queue.items c.loop-k.known c.meet.new.queue.items c.meet.new.known
    (led-one count words word k (omega arith) refl) step.told in
    record {
      kept = below_more _ _ (λ j lt. kept-word c.args.edition c.loop-k.known c.meet.new.known (get_or words j 0) step.told.more (inv.kept j lt)) step.kept;
      told = told-then led c.args.queue.now.items c.args.known.now c.loop-k.queue.items c.loop-k.known c.meet.new.queue.items c.meet.new.known inv.told told;
      leads = below_more _ _ inv.leads step.leads;
      met = step.met;
      once = step.once;
      same = c.meet.ensures.known ∙ inv.same;
      heads = c.meet.ensures.heads ∙ inv.heads;
    }
