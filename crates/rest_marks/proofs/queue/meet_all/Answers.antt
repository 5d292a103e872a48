use Rattle.std.proofs.Common.{◌≡◌, ℕ, ◌+◌, ◌-◌, ◌<◌, ◌≤◌, List, [], ◌∷◌, fold, drop, length, get_or, inl, inr, sym, ap, ◌∙◌, arith}
use Rattle.std.proofs.Common.{below_more}
use Rattle.std.proofs.lemmas.Bool.{cases_lt}
use Rattle.std.proofs.lemmas.List.{drop_more}
use Rattle.std.proofs.lemmas.Result.{err_from_is_err_and}
use Rattle.reachability.specs.Queue.{after_word}
use Rattle.reachability.proofs.Queues.{places}
use Rattle.rest_marks.specs.Meeting.{IsMore}
use Rattle.rest_marks.specs.Reached.{is_below}
use Rattle.rest_marks.specs.declared.queue.Stop.{Stop}
use Rattle.rest_marks.specs.declared.queue.Stop.TheVariants.{Memory, Stray}
use Rattle.rest_marks.proofs.queue.meet_all.Goals as goal

-- no object leaves the queue
longer : (count : ℕ) (queue words : List ℕ) → length queue ≤ length (fold (after_word (is_below count)) queue words)
longer count queue words = elim (cases_lt 0 (length queue)) [
  | inl some ↦ (let last = (places (is_below count) queue words (length queue - 1) (omega (arith, some))).0 in omega (arith, last, some))
  | inr none ↦ omega (arith, none)
]

-- where memory ran out at one word, it did at all words
all-more : (count : ℕ) (old queue words : List ℕ) (k : ℕ) (stop : Stop) → k < length words → length old ≤ length queue
    → fold (after_word (is_below count)) queue (drop k words) ≡ fold (after_word (is_below count)) old words
    → IsMore count queue (get_or words k 0 ∷ []) stop → IsMore count old words stop
all-more count old queue words k Memory lt more all one =
    let step = fold (after_word (is_below count)) in
    let first = after_word (is_below count) queue (get_or words k 0) in
    let from : step first (drop (k + 1) words) ≡ step old words = sym (ap (step queue) (drop_more words k 0 lt)) ∙ all in
    omega (arith, more, one, longer count first (drop (k + 1) words), ap (λ (xs : List ℕ). length xs) from)
all-more count old queue words k (Stray n) lt more all one = tt

pub loop-k-preserved : goal.loop-k-preserved
loop-k-preserved c =
    let words = c.args.words.now in
    let i = c.loop-k.k in
    let step = fold (after_word (is_below c.args.count)) in
    record {
      queue = ap (λ (queue : List ℕ). step queue (drop (i + 1) words)) c.in_ok-meet.ensures.queue
          ∙ sym (ap (step c.loop-k.queue.items) (drop_more words i 0 (omega arith))) ∙ c.loop-k.invariant.queue;
      met = c.in_ok-meet.ensures.met;
      leads = below_more _ _ c.loop-k.invariant.leads c.in_ok-meet.ensures.leads;
      once = c.in_ok-meet.ensures.once;
      same = c.meet.ensures.length ∙ c.loop-k.invariant.same;
      more = omega (arith, c.loop-k.invariant.more, longer c.args.count c.loop-k.queue.items (get_or words i 0 ∷ []), ap (λ (queue : List ℕ). length queue) c.in_ok-meet.ensures.queue);
      room = omega (arith, c.meet.ensures.capacity, c.loop-k.invariant.room);
    }

pub returns-in_err-meet-clause-more : goal.returns-in_err-meet-clause-more
returns-in_err-meet-clause-more c =
    let p = err_from_is_err_and c.from_residual.result c.from_residual.ensures.1 in
    rw (p.1, p.2) (all-more c.args.count c.args.queue.now.items c.loop-k.queue.items c.args.words.now c.loop-k.k c.in_err-meet.field-0.0 (omega arith)
    c.loop-k.invariant.more c.loop-k.invariant.queue c.in_err-meet.ensures.more)
