use Rattle.std.proofs.Common.{◌≡◌, ◌∙◌, ◌≤◌, ℕ, List, length, take, sym, ap, subst, arith, length-take}
use Rattle.std.proofs.lemmas.List.{length-map, take_all}
use Rattle.heap_layout.specs.declared.edition.Edition.{Edition}
use Rattle.heap_layout.specs.Limits.{most_roots}
use Rattle.mark_tables.specs.MarkBitmap.{set_bits}
use Rattle.rest_marks.specs.Given.{HasSlid}
use Rattle.rest_marks.specs.Places.{found_in, word_now, words_now, Found, IsAsFound, IsSlideFault}
use Rattle.rest_marks.specs.Surveys.{marks_of}
use Rattle.stopped_heap.proofs.Slid.{collected-as}
use Rattle.stopped_heap.proofs.given.collect_by_bits.Goals as goal

pub returns-clause-collected : goal.returns-clause-collected
returns-clause-collected c =
    let found = c.in-Ok.places in
    let words = c.args.words.now in
    let roots = c.args.roots.now in
    let live = c.live_words-live.result in
    let all = words_now found words in
    let many : length all ≡ length found.indices = length-map found.indices (word_now found words) in
    let part_long : length (take live c.args.to.now) ≡ length found.indices = omega (arith, length-take live c.args.to.now, c.if-live-to.false, c.live_words-live.ensures) in
    let filled : c.try_slide.new.part ≡ all = c.in_default.ensures.slid ∙ take_all _ all (simp length-take (omega (arith, c.live_words-live.ensures, c.if-live-to.false, many))) in
    let slid : HasSlid found words roots = record {
      count = sym c.in-Ok.ensures.count;
      few_roots = subst (λ (e : Edition). length roots ≤ most_roots e) (sym c.in-Ok.ensures.edition) c.in-Ok.ensures.few_roots;
      roots_lead = c.in-Ok.ensures.roots;
      as_found = subst (IsAsFound found words 0) part_long c.in_default.ensures.as_found;
    } in
    collected-as found c.in-Ok.ensures.found.0 c.args.edition words roots (marks_of c.args.heads.now) live c.try_slide.new.part c.args.to.now c.forward_weak.new.words
    c.in-Ok.ensures.found.1 c.in-Ok.ensures.edition c.in-Ok.ensures.marks slid c.live_words-live.ensures filled c.forward_weak.ensures

pub returns-in-Err-try_slide-clause-fault : goal.returns-in-Err-try_slide-clause-fault
returns-in-Err-try_slide-clause-fault c =
    let found = c.in-Ok.places in
    let of = c.in-Ok.ensures in
    let words = c.args.words.now in
    let live = c.live_words-live.result in
    let fault = c.in-Err-try_slide.fault in
    let few : live ≤ length c.args.to.now = omega (arith, c.if-live-to.false) in
    let many : live ≡ length (set_bits c.args.bits.now) = c.live_words-live.ensures ∙ ap length of.indices in
    let part_long : length (take live c.args.to.now) ≡ length (set_bits c.args.bits.now) = omega (arith, length-take live c.args.to.now, few, many) in
    let same : found ≡ found_in c.args.edition (length words) c.args.heads.now c.args.bits.now 0 =
    ap (λ (e : Edition). record { edition = e; count = found.count; marks = found.marks; indices = found.indices; room = found.room }) of.edition
    ∙ ap (λ (n : ℕ). record { edition = c.args.edition; count = n; marks = found.marks; indices = found.indices; room = found.room }) of.count
    ∙ ap (λ (ms : List ℕ). record { edition = c.args.edition; count = length words; marks = ms; indices = found.indices; room = found.room }) of.marks
    ∙ ap (λ (is : List ℕ). record { edition = c.args.edition; count = length words; marks = marks_of c.args.heads.now; indices = is; room = found.room }) of.indices
    ∙ ap (λ (n : ℕ). record { edition = c.args.edition; count = length words; marks = marks_of c.args.heads.now; indices = set_bits c.args.bits.now; room = n }) of.room in
    let there : IsSlideFault found words 0 (length (take live c.args.to.now)) fault = c.in-Err-try_slide.ensures.fault in (
      of.taken,
      omega (arith, few, many),
      subst (λ (n : ℕ). IsSlideFault (found_in c.args.edition (length words) c.args.heads.now c.args.bits.now 0) words 0 n fault) part_long
          (subst (λ (f : Found). IsSlideFault f words 0 (length (take live c.args.to.now)) fault) same there),
    )
