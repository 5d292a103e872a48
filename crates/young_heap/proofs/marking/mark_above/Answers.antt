use Rattle.std.proofs.Common.{◌≡◌, ℕ, ◌+◌, ◌<◌, List, [], false, fold, length, get_or, refl, sym, ap, subst, ◌∙◌, arith}
use Rattle.std.proofs.lemmas.Grind.{fold-append}
use Rattle.std.proofs.lemmas.List.{get_or_default}
use Rattle.heap_layout.specs.Bits.{bit}
use Rattle.heap_layout.specs.Header.{size_of}
use Rattle.heap_layout.specs.Heap.{header_at, object_at, IsPlaced}
use Rattle.mark_tables.proofs.Runs.{IsRunSet}
use Rattle.reachability.specs.Queue.{after_word}
use Rattle.rest_marks.specs.Meeting.{AllLead}
use Rattle.rest_marks.specs.Reached.{IsWordOf}
use Rattle.rest_marks.proofs.Queued.{once-none}
use Rattle.rest_marks.proofs.Reaching.{references_of}
use Rattle.young_heap.specs.Young.{is_above, seeds, words_at, AllLed}
use Rattle.young_heap.proofs.Following.{reached-above, followed-first, followed-next, followed-few, all-followed, above-at, reached-at}
use Rattle.young_heap.proofs.Leads.{all-led-same, kept-on, led-same}
use Rattle.young_heap.specs.Refusals.{IsMet, IsYoungFaultOf}
use Rattle.rest_marks.specs.declared.fault.SurveyFault.TheVariants.{Overlap}
use Rattle.young_heap.proofs.Refusing.{bad-reference, bad-weak, overlapping}
use Rattle.young_heap.proofs.Spreading.{spread-first, spread-next, spread-done, spread-only, spread-apart}
use Rattle.young_heap.proofs.marking.mark_above.Goals as goal

pub meet_all_above-requires-clause-once : goal.meet_all_above-requires-clause-once
meet_all_above-requires-clause-once c = rw c.requires.empty (once-none (length c.args.words.now))

pub loop-next-init : goal.loop-next-init
loop-next-init c =
    let words = c.args.words.now in
    let roots = c.args.roots.now in
    let others = words_at words c.args.fields.now in
    let step = after_word (is_above c.args.old (length words)) in
    let from = c.in-Ok-meet_fields.ensures.queue
    ∙ ap (λ (queue : List ℕ). fold step queue others) (c.in-Ok.ensures.queue ∙ ap (λ (queue : List ℕ). fold step queue roots) c.requires.empty)
    ∙ sym (fold-append step [] roots others) in
    record {
      followed = followed-first c.args.edition c.args.old words (seeds words roots c.args.fields.now) c.meet_fields.new.queue.items from;
      spread = spread-first c.args.edition c.args.heads.now c.args.old words c.meet_fields.new.queue.items c.meet_fields.new.met c.args.bits.now
          c.in-Ok-meet_fields.ensures.met (c.meet_fields.ensures.length ∙ c.meet_all_above.ensures.length ∙ sym c.requires.long) c.requires.no_bits;
      long = c.meet_fields.ensures.length ∙ c.meet_all_above.ensures.length;
      heads_below = kept-on c.args.old c.args.heads.now c.meet_all_above.new.met c.meet_fields.new.met c.meet_all_above.ensures.below c.meet_fields.ensures.below;
      bits_below = λ i lt. refl;
      room = omega (arith, c.meet_all_above.ensures.capacity, c.meet_fields.ensures.capacity);
    }

pub bounds-words-i : goal.bounds-words-i
bounds-words-i c =
    let queue = c.loop-next.queue.items in
    let next = c.loop-next.next in
    let words = c.args.words.now in
    let within : next < length queue = omega arith in
    let here : get_or queue next 0 ≡ c.index.result.now = get_or_default queue next 0 c.index.result.now within ∙ sym c.index.ensures in
    subst (λ (n : ℕ). n < length words) here
    (above-at c.args.edition c.args.old words (seeds words c.args.roots.now c.args.fields.now) queue next next c.loop-next.invariant.followed within).inside

pub ends_within-requires : goal.ends_within-requires
ends_within-requires c =
    let queue = c.loop-next.queue.items in
    let next = c.loop-next.next in
    let words = c.args.words.now in
    let ahead = c.index-then-next-len.result.now in
    let within : next + 8 < length queue = omega arith in
    let here : get_or queue (next + 8) 0 ≡ ahead = get_or_default queue (next + 8) 0 ahead within ∙ sym c.index-then-next-len.ensures in
    subst (λ (n : ℕ). n < length words) here
    (above-at c.args.edition c.args.old words (seeds words c.args.roots.now c.args.fields.now) queue next (next + 8) c.loop-next.invariant.followed within).inside

pub overflow_sub-count : goal.overflow_sub-count
overflow_sub-count c =
    let queue = c.loop-next.queue.items in
    let next = c.loop-next.next in
    let words = c.args.words.now in
    let within : next < length queue = omega arith in
    let here : get_or queue next 0 ≡ c.index.result.now = get_or_default queue next 0 c.index.result.now within ∙ sym c.index.ensures in
    omega (arith, here, (above-at c.args.edition c.args.old words (seeds words c.args.roots.now c.args.fields.now) queue next next c.loop-next.invariant.followed within).inside)

pub loop-next-smaller : goal.loop-next-smaller
loop-next-smaller c =
    let words = c.args.words.now in
    let few = followed-few c.args.edition c.args.old words (seeds words c.args.roots.now c.args.fields.now) c.loop-next.queue.items c.loop-next.next c.loop-next.invariant.followed in
    omega arith

pub loop-next-preserved : goal.loop-next-preserved
loop-next-preserved c =
    let e = c.args.edition in
    let old = c.args.old in
    let words = c.args.words.now in
    let from_all = seeds words c.args.roots.now c.args.fields.now in
    let starts = c.args.heads.now in
    let row = is_above old (length words) in
    let before = c.loop-next.queue.items in
    let next = c.loop-next.next in
    let i = c.index.result.now in
    let within : next < length before = omega arith in
    let here : i ≡ get_or before next 0 = c.index.ensures ∙ get_or_default before next i 0 within in
    let high = (above-at e old words from_all before next next c.loop-next.invariant.followed within).above in
    let from = c.in-Ok-meet_all_above.ensures.queue ∙ ap (fold (after_word row) before) (c.references-references.ensures ∙ ap (references_of e words) here) in
    let size : c.shape_of-shape.result.size ≡ size_of (header_at e words i) = c.shape_of-shape.ensures.size in
    let run_of : IsRunSet i c.shape_of-shape.result.size c.loop-next.bits c.take_run.new.bits = record {
      long = c.if-not-take_run.ensures.length;
      below = c.if-not-take_run.ensures.below;
      inside = c.if-not-take_run.ensures.inside refl;
      above = c.if-not-take_run.ensures.above refl;
    } in
    let run_at : IsRunSet i (size_of (header_at e words i)) c.loop-next.bits c.take_run.new.bits =
    subst (λ (n : ℕ). IsRunSet i n c.loop-next.bits c.take_run.new.bits) size run_of in
    let free_at : (j : ℕ) → IsWordOf e words i j → bit c.loop-next.bits j ≡ false = λ j of. c.if-not-take_run.ensures.free refl j of.0 (omega (arith, of.1, size)) in
    let placed_at : IsPlaced e words i = record {
      within = omega (arith, size, c.if-shape-count.false, c.if-shape-max_object_words.false);
      short = omega (arith, size, c.if-shape-max_object_words.false, c.max_object_words.ensures);
    } in
    let led_at : AllLed e starts old (length words) c.references-references.result.now =
    all-led-same e starts c.loop-next.heads old (length words) c.references-references.result.now c.loop-next.invariant.heads_below c.in-Ok-meet_all_above.ensures.leads in
    let references_at : AllLed e starts old (length words) (object_at e words i).references = subst (AllLed e starts old (length words)) c.references-references.ensures led_at in
    let weak_at : AllLead e (length words) (object_at e words i).weak = subst (AllLead e (length words)) c.weak_words-weak.ensures c.in_default.ensures.all in
    record {
      followed = followed-next e old words from_all before next c.meet_all_above-in-loop-next.new.queue.items c.loop-next.invariant.followed within from;
      spread = spread-next e starts old words before next c.meet_all_above-in-loop-next.new.queue.items c.loop-next.heads c.loop-next.bits c.meet_all_above-in-loop-next.new.met c.take_run.new.bits
          c.loop-next.invariant.spread within from c.in-Ok-meet_all_above.ensures.met
          (c.meet_all_above-in-loop-next.ensures.length ∙ c.loop-next.invariant.spread.same ∙ sym c.take_run.ensures.length) high
          (subst (IsPlaced e words) here placed_at)
          (subst (λ (n : ℕ). IsRunSet n (size_of (header_at e words n)) c.loop-next.bits c.take_run.new.bits) here run_at)
          (subst (λ (n : ℕ). (j : ℕ) → IsWordOf e words n j → bit c.loop-next.bits j ≡ false) here free_at)
          (subst (λ (n : ℕ). AllLed e starts old (length words) (object_at e words n).references) here references_at)
          (subst (λ (n : ℕ). AllLead e (length words) (object_at e words n).weak) here weak_at);
      long = c.meet_all_above-in-loop-next.ensures.length ∙ c.loop-next.invariant.long;
      heads_below = kept-on old starts c.loop-next.heads c.meet_all_above-in-loop-next.new.met c.loop-next.invariant.heads_below c.meet_all_above-in-loop-next.ensures.below;
      bits_below = λ j lt. c.if-not-take_run.ensures.below j (omega (arith, lt, high, here)) ∙ c.loop-next.invariant.bits_below j lt;
      room = omega (arith, c.meet_all_above-in-loop-next.ensures.capacity, c.loop-next.invariant.room);
    }

pub returns-clause-reached : goal.returns-clause-reached
returns-clause-reached c = λ i above set. c.loop-next.invariant.followed.objects.holds i (sym (c.loop-next.invariant.spread.met i above) ∙ set)

pub returns-clause-all : goal.returns-clause-all
returns-clause-all c = λ i reached.
    let words = c.args.words.now in
    let from_all = seeds words c.args.roots.now c.args.fields.now in
    let at = reached-above c.args.edition c.args.old words from_all i reached in
    c.loop-next.invariant.spread.met i at.above
    ∙ all-followed c.args.edition c.args.old words from_all c.loop-next.queue.items c.loop-next.next c.loop-next.invariant.followed (omega arith) i reached

pub returns-clause-done : goal.returns-clause-done
returns-clause-done c =
    spread-done c.args.edition c.args.heads.now c.args.old c.args.words.now c.loop-next.queue.items c.loop-next.next c.loop-next.heads c.loop-next.bits c.loop-next.invariant.spread (omega arith)

pub returns-clause-only : goal.returns-clause-only
returns-clause-only c =
    spread-only c.args.edition c.args.heads.now c.args.old c.args.words.now c.loop-next.queue.items c.loop-next.next c.loop-next.heads c.loop-next.bits c.loop-next.invariant.spread
    c.loop-next.invariant.followed.within

pub returns-clause-apart : goal.returns-clause-apart
returns-clause-apart c =
    spread-apart c.args.edition c.args.heads.now c.args.old c.args.words.now c.loop-next.queue.items c.loop-next.next c.loop-next.heads c.loop-next.bits c.loop-next.invariant.spread (omega arith)

pub returns-clause-led : goal.returns-clause-led
returns-clause-led c =
    let words = c.args.words.now in
    all-led-same c.args.edition c.args.heads.now c.meet_all_above.new.met c.args.old (length words) (words_at words c.args.fields.now) c.meet_all_above.ensures.below
    c.in-Ok-meet_fields.ensures.leads

pub returns-then-not-take_run-clause-fault : goal.returns-then-not-take_run-clause-fault
returns-then-not-take_run-clause-fault c =
    let e = c.args.edition in
    let old = c.args.old in
    let words = c.args.words.now in
    let roots = c.args.roots.now in
    let fields = c.args.fields.now in
    let starts = c.args.heads.now in
    let from_all = seeds words roots fields in
    let queue = c.loop-next.queue.items in
    let next = c.loop-next.next in
    let i = c.index.result.now in
    let within : next < length queue = omega arith in
    let here : get_or queue next 0 ≡ i = get_or_default queue next 0 i within ∙ sym c.index.ensures in
    let reached : IsMet e words roots old fields i = subst (IsMet e words roots old fields) here (reached-at e old words from_all queue next next c.loop-next.invariant.followed within) in
    let size : c.shape_of-shape.result.size ≡ size_of (header_at e words i) = c.shape_of-shape.ensures.size in
    let at = c.if-not-take_run.ensures.taken refl in
    let high = (above-at e old words from_all queue next next c.loop-next.invariant.followed within).above in
    let of : IsWordOf e words i at.0 = (at.1, omega (arith, at.2, size)) in
    subst (λ (n : ℕ). IsYoungFaultOf e words roots starts old fields [] (Overlap n)) here
    (overlapping e words roots starts old fields [] queue next c.loop-next.heads c.loop-next.bits at.0 c.loop-next.invariant.followed c.loop-next.invariant.spread within
    (omega (arith, high, here, at.1)) (subst (λ (n : ℕ). IsWordOf e words n at.0) (sym here) of) at.3)

pub returns-in-Err-Stray-meet_all_above-clause-fault : goal.returns-in-Err-Stray-meet_all_above-clause-fault
returns-in-Err-Stray-meet_all_above-clause-fault c =
    let e = c.args.edition in
    let old = c.args.old in
    let words = c.args.words.now in
    let roots = c.args.roots.now in
    let fields = c.args.fields.now in
    let starts = c.args.heads.now in
    let from_all = seeds words roots fields in
    let queue = c.loop-next.queue.items in
    let next = c.loop-next.next in
    let i = c.index.result.now in
    let within : next < length queue = omega arith in
    let here : get_or queue next 0 ≡ i = get_or_default queue next 0 i within ∙ sym c.index.ensures in
    let reached : IsMet e words roots old fields i = subst (IsMet e words roots old fields) here (reached-at e old words from_all queue next next c.loop-next.invariant.followed within) in
    let stop = rw c.in-Err-Stray-meet_all_above.field-0-is at c.in-Err-Stray-meet_all_above.ensures.stop in
    rw c.in-Err-Stray-meet_all_above.field-0-is
    (bad-reference e words roots starts old fields [] c.references-references.result.now i _ reached c.references-references.ensures stop.0
    (sym (led-same e starts c.loop-next.heads old (length words) _ c.loop-next.invariant.heads_below) ∙ stop.1))

pub returns-in-Err-clause-fault : goal.returns-in-Err-clause-fault
returns-in-Err-clause-fault c =
    let e = c.args.edition in
    let old = c.args.old in
    let words = c.args.words.now in
    let roots = c.args.roots.now in
    let fields = c.args.fields.now in
    let starts = c.args.heads.now in
    let from_all = seeds words roots fields in
    let queue = c.loop-next.queue.items in
    let next = c.loop-next.next in
    let i = c.index.result.now in
    let within : next < length queue = omega arith in
    let here : get_or queue next 0 ≡ i = get_or_default queue next 0 i within ∙ sym c.index.ensures in
    let reached : IsMet e words roots old fields i = subst (IsMet e words roots old fields) here (reached-at e old words from_all queue next next c.loop-next.invariant.followed within) in
    bad-weak e words roots starts old fields [] c.weak_words-weak.result.now i c.shape_of-shape.result.refs _ reached c.shape_of-shape.ensures.refs c.weak_words-weak.ensures
    c.in-Err.ensures.inside c.in-Err.ensures.stray

pub returns-then-not-take_run-clause-bits_below : goal.returns-then-not-take_run-clause-bits_below
returns-then-not-take_run-clause-bits_below c = λ i lt.
    let e = c.args.edition in
    let old = c.args.old in
    let words = c.args.words.now in
    let from_all = seeds words c.args.roots.now c.args.fields.now in
    let queue = c.loop-next.queue.items in
    let next = c.loop-next.next in
    let within : next < length queue = omega arith in
    let here : get_or queue next 0 ≡ c.index.result.now = get_or_default queue next 0 c.index.result.now within ∙ sym c.index.ensures in
    let high = (above-at e old words from_all queue next next c.loop-next.invariant.followed within).above in
    c.take_run.ensures.below i (omega (arith, lt, high, here)) ∙ c.loop-next.invariant.bits_below i lt

pub returns-in-Err-Memory-meet_all_above-clause-bits_below : goal.returns-in-Err-Memory-meet_all_above-clause-bits_below
returns-in-Err-Memory-meet_all_above-clause-bits_below c = λ i lt.
    let e = c.args.edition in
    let old = c.args.old in
    let words = c.args.words.now in
    let from_all = seeds words c.args.roots.now c.args.fields.now in
    let queue = c.loop-next.queue.items in
    let next = c.loop-next.next in
    let within : next < length queue = omega arith in
    let here : get_or queue next 0 ≡ c.index.result.now = get_or_default queue next 0 c.index.result.now within ∙ sym c.index.ensures in
    let high = (above-at e old words from_all queue next next c.loop-next.invariant.followed within).above in
    c.take_run.ensures.below i (omega (arith, lt, high, here)) ∙ c.loop-next.invariant.bits_below i lt

pub returns-in-Err-Stray-meet_all_above-clause-bits_below : goal.returns-in-Err-Stray-meet_all_above-clause-bits_below
returns-in-Err-Stray-meet_all_above-clause-bits_below c = λ i lt.
    let e = c.args.edition in
    let old = c.args.old in
    let words = c.args.words.now in
    let from_all = seeds words c.args.roots.now c.args.fields.now in
    let queue = c.loop-next.queue.items in
    let next = c.loop-next.next in
    let within : next < length queue = omega arith in
    let here : get_or queue next 0 ≡ c.index.result.now = get_or_default queue next 0 c.index.result.now within ∙ sym c.index.ensures in
    let high = (above-at e old words from_all queue next next c.loop-next.invariant.followed within).above in
    c.take_run.ensures.below i (omega (arith, lt, high, here)) ∙ c.loop-next.invariant.bits_below i lt

pub returns-in-Err-clause-bits_below : goal.returns-in-Err-clause-bits_below
returns-in-Err-clause-bits_below c = λ i lt.
    let e = c.args.edition in
    let old = c.args.old in
    let words = c.args.words.now in
    let from_all = seeds words c.args.roots.now c.args.fields.now in
    let queue = c.loop-next.queue.items in
    let next = c.loop-next.next in
    let within : next < length queue = omega arith in
    let here : get_or queue next 0 ≡ c.index.result.now = get_or_default queue next 0 c.index.result.now within ∙ sym c.index.ensures in
    let high = (above-at e old words from_all queue next next c.loop-next.invariant.followed within).above in
    c.take_run.ensures.below i (omega (arith, lt, high, here)) ∙ c.loop-next.invariant.bits_below i lt
