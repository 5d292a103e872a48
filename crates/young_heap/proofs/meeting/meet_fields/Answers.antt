use Rattle.std.proofs.Common.{ℕ, ◌+◌, ◌<◌, List, fold, drop, get_or, length, sym, ap, ◌∙◌, arith}
use Rattle.std.proofs.Common.{below_more}
use Rattle.std.proofs.lemmas.List.{drop_more, get_or-map, length-map}
use Rattle.reachability.specs.Queue.{after_word}
use Rattle.young_heap.specs.Young.{is_above, is_led, words_at}
use Rattle.young_heap.proofs.Leads.{led-same, kept-on}
use Rattle.young_heap.proofs.meeting.meet_fields.Goals as goal

pub loop-n-preserved : goal.loop-n-preserved
loop-n-preserved c =
    let words = c.args.words.now in
    let fields = c.args.fields.now in
    let i = c.loop-n.n in
    let step = fold (after_word (is_above c.args.old (length words))) in
    record {
      queue = ap (λ (queue : List ℕ). step queue (words_at words (drop (i + 1) fields))) c.in_ok-meet_above.ensures.queue
          ∙ sym (ap (λ (rest : List ℕ). step c.loop-n.queue.items (words_at words rest)) (drop_more fields i 0 (omega arith))) ∙ c.loop-n.invariant.queue;
      met = c.in_ok-meet_above.ensures.met;
      leads = below_more _ _ c.loop-n.invariant.leads
          (sym (led-same c.args.edition c.args.met.now c.loop-n.met c.args.old (length words) _ c.loop-n.invariant.below) ∙ c.in_ok-meet_above.ensures.leads);
      once = c.in_ok-meet_above.ensures.once;
      below = kept-on c.args.old c.args.met.now c.loop-n.met c.meet_above.new.met c.loop-n.invariant.below c.meet_above.ensures.below;
      same = c.meet_above.ensures.length ∙ c.loop-n.invariant.same;
      room = omega (arith, c.meet_above.ensures.capacity, c.loop-n.invariant.room);
    }

pub returns-clause-leads : goal.returns-clause-leads
returns-clause-leads c = λ k lt.
    let words = c.args.words.now in
    let fields = c.args.fields.now in
    let read = λ (n : ℕ). get_or words n 0 in
    let long = length-map fields read in
    let inside : k < length fields = omega (arith, lt, long) in
    ap (is_led c.args.edition c.args.met.now c.args.old (length words)) (get_or-map read fields k 0 0 inside) ∙ c.loop-n.invariant.leads k (omega (arith, inside, c.loop-n-test.false))
