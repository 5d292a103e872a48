use Rattle.std.proofs.Common.{◌≡◌, ℕ, ◌*◌, ◌≤◌, true, ◌++◌, length, drop, get_or, map, refl, sym, ap, subst, ◌∙◌, arith}
use Rattle.heap_layout.specs.Bits.{bit}
use Rattle.heap_layout.specs.Heap.{live}
use Rattle.page_plan.specs.Sliding.{live_words}
use Rattle.reachability.proofs.Queues.{place-of}
use Rattle.stopped_heap.specs.Collecting.{IsCollected}
use Rattle.rest_marks.specs.Reached.{is_within}
use Rattle.rest_slide.specs.Settled.{settled_word, settled_words}
use Rattle.rest_marks.specs.Surveys.{marks_of, told}
use Rattle.stopped_heap.proofs.Viewed.{last-count, settled-seen}
use Rattle.std.proofs.lemmas.List.{get_or-map, length-map}
use Rattle.std.proofs.lemmas.Result.{err_from_is_err_and}
use Rattle.young_heap.specs.Young.{is_led, AreKeptYoung}
use Rattle.young_heap.proofs.Bearing.{old-on, remembered-on}
use Rattle.young_heap.proofs.Joining.{IsMarkedAbove, young-sound, young-tables}
use Rattle.young_heap.proofs.Refusing.{fault-more}
use Rattle.young_heap.proofs.Safe.{led-known, live-between, young-marked}
use Rattle.young_heap.proofs.Staying.{ones-below}
use Rattle.young_heap.proofs.collecting.collect_above.Goals as goal

pub check_at-requires-clause-below : goal.check_at-requires-clause-below
check_at-requires-clause-below c = λ k d lt. (let low = c.requires.weaks.below k d lt in omega (arith, low, c.requires.within))

pub recount-requires-clause-before : goal.recount-requires-clause-before
recount-requires-clause-before c = λ b le.
    let bits = c.mark_above.new.bits in
    c.requires.offsets b le
    ∙ sym (ones-below (bit bits) (64 * b) (λ j lt. c.in_ok-mark_above.ensures.bits_below j (omega (arith, lt, le)) ∙ c.requires.ones j (omega (arith, lt, le))))

pub slide_above-requires-clause-tables : goal.slide_above-requires-clause-tables
slide_above-requires-clause-tables c =
    let words = c.args.words.now in
    let bits = c.mark_above.new.bits in
    let found = c.in_ok-mark_above.ensures in
    young-marked c.args.edition words c.args.heads.now c.args.old c.mark_above.new.heads bits c.recount.new.offsets c.requires.within c.requires.few
    found.done found.only found.apart (λ j lt. found.bits_below j lt ∙ c.requires.ones j lt) c.recount.ensures.offsets
    (omega (arith, found.same, found.long, c.requires.long)) (omega (arith, found.long, c.requires.long, c.requires.room))

pub slide_above-requires-clause-known : goal.slide_above-requires-clause-known
slide_above-requires-clause-known c = λ n lt.
    let e = c.args.edition in
    let words = c.args.words.now in
    let fields = c.args.fields.now in
    let bits = c.mark_above.new.bits in
    let found = c.in_ok-mark_above.ensures in
    let many : length words ≤ 64 * length bits = omega (arith, found.long, c.requires.long, c.requires.room) in
    let low = c.requires.fields.below n 0 lt in
    let read = λ (k : ℕ). get_or words k 0 in
    let long = length-map fields read in
    let led : is_led e c.args.heads.now c.args.old (length words) (get_or words (get_or fields n 0) 0) ≡ true =
    ap (is_led e c.args.heads.now c.args.old (length words)) (sym (get_or-map read fields n 0 0 lt)) ∙ found.led n (omega (arith, lt, long)) in
    led-known e c.args.heads.now c.args.old (length words) (length bits) (get_or words (get_or fields n 0) 0) led many (omega (arith, low, c.requires.within, many))

pub returns-clause-marks : goal.returns-clause-marks
returns-clause-marks c = λ old_are remembered.
    let e = c.args.edition in
    let words = c.args.words.now in
    let roots = c.args.roots.now in
    let heads = c.mark_above.new.heads in
    let bits = c.mark_above.new.bits in
    let counts = c.recount.new.offsets in
    let found = c.in_ok-mark_above.ensures in
    let marked : IsMarkedAbove e c.args.old words roots c.args.fields.now c.args.weaks.now c.args.heads.now heads bits = record {
      few_words = c.requires.sizes.0;
      few_roots = c.requires.sizes.1;
      reached = found.reached;
      all = found.all;
      done = found.done;
      only = found.only;
      apart = found.apart;
      roots_lead = found.roots;
      fields_lead = found.led;
      weaks_lead = λ j there.
          let at = place-of c.args.weaks.now j there in
          subst (λ (n : ℕ). is_within e (length words) (get_or words n 0) ≡ true) at.2 (c.in_default.ensures.all at.0 at.1);
      heads_below = found.heads_below;
      bits_below = λ j lt. found.bits_below j lt ∙ c.requires.ones j lt;
      room = omega (arith, found.long, c.requires.long, c.requires.room);
    } in
    let tables = young-tables e c.args.old words roots c.args.fields.now c.args.weaks.now c.args.heads.now heads bits old_are remembered marked counts
    c.recount.ensures.offsets (omega (arith, found.same, found.long, c.requires.long)) in
    let live_heap = told e words heads in
    let all = settled_words (live live_heap) in
    let count = c.from.result in
    let counted : count ≡ live_words (live live_heap) = c.from.ensures ∙ last-count e words heads bits counts tables (length bits) 0 refl in
    let slid : c.slide_above.new.words ≡ all ++ drop count words = c.slide_above.ensures.slid tables (old-on e words c.args.heads.now heads c.args.old found.heads_below old_are)
    (remembered-on e words c.args.heads.now heads c.args.old found.heads_below c.args.fields.now c.args.weaks.now remembered) ∙ ap (λ (n : ℕ). all ++ drop n words) (sym counted) in
    let forwarded : c.settle_all.new.words ≡ map (settled_word e (live live_heap)) roots = c.settle_all.ensures ∙ settled-seen e words heads bits counts heads bits live_heap roots tables refl refl refl in
    let kept : AreKeptYoung e words roots c.args.heads.now c.args.old c.args.fields.now heads = record { below = found.heads_below; reached = found.reached; all = found.all } in
    let is : IsCollected (record { edition = e; words = words; marks = marks_of heads; roots = roots }) count c.settle_all.new.words words c.slide_above.new.words = record {
      sound = young-sound e c.args.old words roots c.args.fields.now c.args.weaks.now c.args.heads.now heads bits old_are remembered marked;
      live = counted;
      words = slid;
      roots_are = forwarded;
    } in
    record { kept = kept; is = is; tables = tables }

pub returns-clause-collected : goal.returns-clause-collected
returns-clause-collected c = λ old_are remembered.
    let marks = returns-clause-marks c old_are remembered in
    (c.mark_above.new.heads, marks.kept, marks.is)

pub returns-clause-tables : goal.returns-clause-tables
returns-clause-tables c =
    let words = c.args.words.now in
    let bits = c.mark_above.new.bits in
    let found = c.in_ok-mark_above.ensures in
    young-marked c.args.edition words c.args.heads.now c.args.old c.mark_above.new.heads bits c.recount.new.offsets c.requires.within c.requires.few
    found.done found.only found.apart (λ j lt. found.bits_below j lt ∙ c.requires.ones j lt) c.recount.ensures.offsets
    (omega (arith, found.same, found.long, c.requires.long)) (omega (arith, found.long, c.requires.long, c.requires.room))

pub returns-clause-counts_below : goal.returns-clause-counts_below
returns-clause-counts_below c = λ b le.
    let bits = c.mark_above.new.bits in
    c.recount.ensures.offsets.before b (omega (arith, le, c.requires.within, c.requires.room, c.requires.long, c.in_ok-mark_above.ensures.long))
    ∙ ones-below (bit bits) (64 * b) (λ j lt. c.in_ok-mark_above.ensures.bits_below j (omega (arith, lt, le)) ∙ c.requires.ones j (omega (arith, lt, le)))

pub returns-clause-order : goal.returns-clause-order
returns-clause-order c =
    let bits = c.mark_above.new.bits in
    let found = c.in_ok-mark_above.ensures in
    let words = c.args.words.now in
    let many : length words ≤ 64 * length bits = omega (arith, found.long, c.requires.long, c.requires.room) in
    let counted = c.from.ensures ∙ c.recount.ensures.offsets.before (length bits) (omega arith) in
    live-between bits c.args.old (length words) c.from.result c.requires.within many (λ j lt. found.bits_below j lt ∙ c.requires.ones j lt)
    (λ j up set. (let at = found.only j up set in let fits = (found.done at.0 at.1 at.2).placed.within in omega (arith, fits, at.3.1))) counted

pub returns-in_err-mark_above-clause-fault : goal.returns-in_err-mark_above-clause-fault
returns-in_err-mark_above-clause-fault c =
    let p = err_from_is_err_and c.from_residual.result c.from_residual.ensures.1 in
    rw (p.1, p.2)
    (fault-more c.args.edition c.args.words.now c.args.roots.now c.args.heads.now c.args.old c.args.fields.now c.args.weaks.now c.in_err-mark_above.field-0.0
    c.in_err-mark_above.ensures.fault)
