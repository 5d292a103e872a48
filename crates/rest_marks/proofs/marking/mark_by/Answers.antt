use Rattle.std.proofs.Common.{◌≡◌, ℕ, ◌+◌, ◌<◌, ◌≤◌, List, false, fold, length, get_or, refl, sym, ap, subst, ◌∙◌, arith}
use Rattle.std.proofs.lemmas.Grind.{common_steps}
use Rattle.std.proofs.lemmas.List.{get_or_default}
use Rattle.std.proofs.lemmas.Map.Steps.{length-le_from_distinct_below}
use Rattle.heap_layout.specs.Bits.{bit}
use Rattle.heap_layout.specs.Header.{refs_of, size_of}
use Rattle.heap_layout.specs.Heap.{header_at, object_at, IsPlaced}
use Rattle.mark_tables.proofs.Runs.{IsRunSet}
use Rattle.reachability.specs.Queue.{after_word}
use Rattle.reachability.proofs.Queues.{has-at}
use Rattle.rest_marks.specs.Reached.{is_below, IsWordOf}
use Rattle.rest_marks.specs.Following.{IsAhead}
use Rattle.rest_marks.specs.Growing.{IsSeenFaultOf}
use Rattle.rest_marks.specs.Meeting.{AllLead}
use Rattle.rest_marks.specs.declared.fault.SurveyFault.TheVariants.{BadReference, BadWeak, Overlap}
use Rattle.rest_marks.proofs.Copied.{all-stay, ahead-none, ahead-on}
use Rattle.rest_marks.proofs.Reaching.{references_of}
use Rattle.rest_marks.proofs.Seen.{IsSeenTo, run-stays, seen-first, seen-next, seen-reference, seen-weak, seen-overlap, seen-onward}
use Rattle.rest_marks.proofs.marking.mark_by.Goals as goal

pub loop-next-init : goal.loop-next-init
loop-next-init c =
    let before = c.args.queue.now.items in
    let last : c.len-next.result ≡ length before = grind (arith, common_steps, c.len-next.ensures) in
    let longer : length before ≤ length c.meet_all.new.queue.items =
    subst (λ (xs : List ℕ). length before ≤ length xs) (sym c.in-Ok.ensures.queue) (all-stay (is_below (length c.args.words.now)) before c.args.roots.now) in
    record {
      seen = λ seen is.
          subst (λ (n : ℕ). IsSeenTo c.args.edition seen before c.args.roots.now c.meet_all.new.queue.items n c.meet_all.new.met c.args.bits.now) (sym last)
          (seen-first c.args.edition c.args.words.now seen before c.args.roots.now c.args.heads.now c.args.bits.now is c.meet_all.new.queue.items c.meet_all.new.met
          c.in-Ok.ensures.queue c.in-Ok.ensures.met (c.meet_all.ensures.length ∙ sym c.requires.long));
      met = c.in-Ok.ensures.met;
      once = c.in-Ok.ensures.once;
      same = c.meet_all.ensures.length ∙ sym c.requires.long;
      stay = λ j set. set;
      long = c.meet_all.ensures.length;
      room = c.meet_all.ensures.capacity;
      ahead = ahead-none c.args.words.now c.meet_all.new.queue.items _ c.none-ahead.result (c.none-ahead.ensures.from ∙ sym c.none-ahead.ensures.to)
          (omega (arith, c.none-ahead.ensures.to, last, longer));
      order = omega (arith, c.none-ahead.ensures.from);
    }

pub shape-shape-requires-clause-inside : goal.shape-shape-requires-clause-inside
shape-shape-requires-clause-inside c =
    let queue = c.loop-next.queue.items in
    let next = c.loop-next.next in
    let within : next < length queue = omega arith in
    let here : get_or queue next 0 ≡ c.index.result.now = get_or_default queue next 0 c.index.result.now within ∙ sym c.index.ensures in
    subst (λ (n : ℕ). n < length c.args.words.now) here (c.loop-next.invariant.once.within (get_or queue next 0) (has-at queue next within))

pub overflow_sub-count : goal.overflow_sub-count
overflow_sub-count c =
    let queue = c.loop-next.queue.items in
    let next = c.loop-next.next in
    let within : next < length queue = omega arith in
    let here : get_or queue next 0 ≡ c.index.result.now = get_or_default queue next 0 c.index.result.now within ∙ sym c.index.ensures in
    omega (arith, here, c.loop-next.invariant.once.within (get_or queue next 0) (has-at queue next within))

pub loop-next-smaller : goal.loop-next-smaller
loop-next-smaller c =
    let once = c.loop-next.invariant.once in
    let few = length-le_from_distinct_below c.loop-next.queue.items (length c.args.words.now) once.once once.within in
    omega arith

pub returns-then-not-take_run-clause-fault : goal.returns-then-not-take_run-clause-fault
returns-then-not-take_run-clause-fault c = λ seen is.
    let e = c.args.edition in
    let words = c.args.words.now in
    let roots = c.args.roots.now in
    let before = c.args.queue.now.items in
    let l = c.loop-next in
    let i = c.index.result.now in
    let within : l.next < length l.queue.items = omega arith in
    let here : get_or l.queue.items l.next 0 ≡ i = get_or_default l.queue.items l.next 0 i within ∙ sym c.index.ensures in
    let size : c.shape-shape.result.size ≡ size_of (header_at e words i) = c.shape-shape.ensures.size in
    let at = c.if-not-take_run.ensures.taken refl in
    let of : IsWordOf e words i at.0 = (at.1, omega (arith, at.2, size)) in
    subst (λ (n : ℕ). IsSeenFaultOf e words seen before roots (Overlap n)) here
    (seen-overlap e words seen before roots c.args.heads.now c.args.bits.now is l.queue.items l.next l.heads l.bits l.invariant.stay (l.invariant.seen seen is) within
    at.0 c.requires.sizes.1 (subst (λ (n : ℕ). IsWordOf e words n at.0) (sym here) of) at.3)

pub returns-in-Err-Stray-meet_all-clause-fault : goal.returns-in-Err-Stray-meet_all-clause-fault
returns-in-Err-Stray-meet_all-clause-fault c = λ seen is.
    let e = c.args.edition in
    let words = c.args.words.now in
    let roots = c.args.roots.now in
    let before = c.args.queue.now.items in
    let l = c.loop-next in
    let i = c.index.result.now in
    let within : l.next < length l.queue.items = omega arith in
    let here : i ≡ get_or l.queue.items l.next 0 = c.index.ensures ∙ get_or_default l.queue.items l.next i 0 within in
    let size : c.shape-shape.result.size ≡ size_of (header_at e words i) = c.shape-shape.ensures.size in
    let free_at : (j : ℕ) → IsWordOf e words i j → bit l.bits j ≡ false = λ j of. c.if-not-take_run.ensures.free refl j of.0 (omega (arith, of.1, size)) in
    let placed_at : IsPlaced e words i = record {
      within = omega (arith, size, c.if-shape-count.false, c.if-shape-max_object_words.false);
      short = omega (arith, size, c.if-shape-max_object_words.false, c.max_object_words.ensures);
    } in
    let stop = rw c.in-Err-Stray-meet_all.field-0-is at c.in-Err-Stray-meet_all.ensures.stop in
    rw c.in-Err-Stray-meet_all.field-0-is
    (subst (λ (n : ℕ). IsSeenFaultOf e words seen before roots (BadReference (n + 1 + c.in-Err-Stray-meet_all.k))) (sym here)
    (seen-reference e words seen before roots c.args.heads.now c.args.bits.now is l.queue.items l.next l.heads l.bits l.invariant.stay (l.invariant.seen seen is) within
    (subst (IsPlaced e words) here placed_at)
    (subst (λ (n : ℕ). (j : ℕ) → IsWordOf e words n j → bit l.bits j ≡ false) here free_at)
    c.references-references.result.now c.in-Err-Stray-meet_all.k c.requires.sizes.1 (c.references-references.ensures ∙ ap (references_of e words) here) stop.0 stop.1))

pub returns-in-Err-clause-fault : goal.returns-in-Err-clause-fault
returns-in-Err-clause-fault c = λ seen is.
    let e = c.args.edition in
    let words = c.args.words.now in
    let roots = c.args.roots.now in
    let before = c.args.queue.now.items in
    let l = c.loop-next in
    let i = c.index.result.now in
    let refs = c.shape-shape.result.refs in
    let within : l.next < length l.queue.items = omega arith in
    let here : i ≡ get_or l.queue.items l.next 0 = c.index.ensures ∙ get_or_default l.queue.items l.next i 0 within in
    let size : c.shape-shape.result.size ≡ size_of (header_at e words i) = c.shape-shape.ensures.size in
    let free_at : (j : ℕ) → IsWordOf e words i j → bit l.bits j ≡ false = λ j of. c.if-not-take_run.ensures.free refl j of.0 (omega (arith, of.1, size)) in
    let placed_at : IsPlaced e words i = record {
      within = omega (arith, size, c.if-shape-count.false, c.if-shape-max_object_words.false);
      short = omega (arith, size, c.if-shape-max_object_words.false, c.max_object_words.ensures);
    } in
    subst (λ (n : ℕ). IsSeenFaultOf e words seen before roots (BadWeak (n + 1 + refs + c.in-Err.k))) (sym here)
    (seen-weak e words seen before roots c.args.heads.now c.args.bits.now is l.queue.items l.next l.heads l.bits l.invariant.stay (l.invariant.seen seen is) within
    (subst (IsPlaced e words) here placed_at)
    (subst (λ (n : ℕ). (j : ℕ) → IsWordOf e words n j → bit l.bits j ≡ false) here free_at)
    c.weak_words-weak.result.now refs c.in-Err.k c.requires.sizes.1
    (c.shape-shape.ensures.refs ∙ ap (λ (n : ℕ). refs_of (header_at e words n)) here)
    (c.weak_words-weak.ensures ∙ ap (λ (n : ℕ). (object_at e words n).weak) here)
    c.in-Err.ensures.inside c.in-Err.ensures.stray)

pub loop-next-preserved : goal.loop-next-preserved
loop-next-preserved c =
    let e = c.args.edition in
    let words = c.args.words.now in
    let roots = c.args.roots.now in
    let before = c.args.queue.now.items in
    let row = is_below (length words) in
    let l = c.loop-next in
    let old = l.queue.items in
    let i = c.index.result.now in
    let within : l.next < length old = omega arith in
    let here : i ≡ get_or old l.next 0 = c.index.ensures ∙ get_or_default old l.next i 0 within in
    let from = c.in-Ok-meet_all.ensures.queue ∙ ap (fold (after_word row) old) (c.references-references.ensures ∙ ap (references_of e words) here) in
    let size : c.shape-shape.result.size ≡ size_of (header_at e words i) = c.shape-shape.ensures.size in
    let run_of : IsRunSet i c.shape-shape.result.size l.bits c.take_run.new.bits = record {
      long = c.if-not-take_run.ensures.length;
      below = c.if-not-take_run.ensures.below refl;
      inside = c.if-not-take_run.ensures.inside refl;
      above = c.if-not-take_run.ensures.above refl;
    } in
    let run_at : IsRunSet i (size_of (header_at e words i)) l.bits c.take_run.new.bits =
    subst (λ (n : ℕ). IsRunSet i n l.bits c.take_run.new.bits) size run_of in
    let free_at : (j : ℕ) → IsWordOf e words i j → bit l.bits j ≡ false = λ j of. c.if-not-take_run.ensures.free refl j of.0 (omega (arith, of.1, size)) in
    let placed_at : IsPlaced e words i = record {
      within = omega (arith, size, c.if-shape-count.false, c.if-shape-max_object_words.false);
      short = omega (arith, size, c.if-shape-max_object_words.false, c.max_object_words.ensures);
    } in
    let references_at : AllLead e (length words) (object_at e words i).references = subst (AllLead e (length words)) c.references-references.ensures c.in-Ok-meet_all.ensures.leads in
    let weak_at : AllLead e (length words) (object_at e words i).weak = subst (AllLead e (length words)) c.weak_words-weak.ensures c.in_default.ensures.all in
    let same_now : length c.meet_all-in-loop-next.new.met ≡ length c.take_run.new.bits =
    c.meet_all-in-loop-next.ensures.length ∙ l.invariant.same ∙ sym c.take_run.ensures.length in
    record {
      seen = λ seen is.
          seen-next e words seen before roots c.args.heads.now c.args.bits.now is old l.next l.heads l.bits l.invariant.stay (l.invariant.seen seen is) within
          (subst (IsPlaced e words) here placed_at)
          (subst (λ (n : ℕ). (j : ℕ) → IsWordOf e words n j → bit l.bits j ≡ false) here free_at)
          c.meet_all-in-loop-next.new.queue.items c.meet_all-in-loop-next.new.met c.take_run.new.bits from c.in-Ok-meet_all.ensures.met same_now
          (subst (λ (n : ℕ). IsRunSet n (size_of (header_at e words n)) l.bits c.take_run.new.bits) here run_at)
          (subst (λ (n : ℕ). AllLead e (length words) (object_at e words n).references) here references_at)
          (subst (λ (n : ℕ). AllLead e (length words) (object_at e words n).weak) here weak_at);
      met = c.in-Ok-meet_all.ensures.met;
      once = c.in-Ok-meet_all.ensures.once;
      same = same_now;
      stay = λ j set. run-stays i c.shape-shape.result.size l.bits c.take_run.new.bits run_of j (l.invariant.stay j set);
      long = c.meet_all-in-loop-next.ensures.length ∙ l.invariant.long;
      room = omega (arith, c.meet_all-in-loop-next.ensures.capacity, l.invariant.room);
      ahead = ahead-on row words old c.references-references.result.now c.meet_all-in-loop-next.new.queue.items c.shape-shape.new.headers c.shape-shape.new.self
          (subst (λ (xs : List ℕ). IsAhead words xs c.shape-shape.new.headers c.shape-shape.new.self) c.deref.ensures.value c.shape-shape.ensures.ahead)
          c.in-Ok-meet_all.ensures.queue;
      order = omega (arith, c.shape-shape.ensures.order);
    }

pub returns-clause-onward : goal.returns-clause-onward
returns-clause-onward c = λ seen is.
    let l = c.loop-next in
    seen-onward c.args.edition c.args.words.now seen c.args.queue.now.items c.args.roots.now c.args.heads.now c.args.bits.now is l.queue.items l.next l.heads l.bits
    (l.invariant.seen seen is) (omega arith) c.in-Ok.ensures.leads
