use Rattle.std.proofs.Common.{◌≡◌, ◌+◌, ◌<◌, ◌≤◌, length, get_or, take, drop, refl, sym, ap, subst, ◌∙◌, arith, length-take, length-drop}
use Rattle.std.proofs.lemmas.Grind.{same_number_lists}
use Rattle.std.proofs.lemmas.List.{length-map, get_or-take, get_or-drop}
use Rattle.std.proofs.lemmas.Result.{on_ok_weaker, IfErr-weaker}
use Rattle.rest_marks.specs.Places.{found_in, word_now, words_now, Found, IsAsFound, IsSlideFault}
use Rattle.rest_marks.specs.declared.fault.SlideFault.{SlideFault}
use Rattle.rest_marks.specs.declared.fault.SlideFault.TheVariants as slide
use Rattle.rest_slide.proofs.Placing.{found-seen}
use Rattle.stopped_heap.proofs.places.Places.try_slide.Goals as goal

pub returns-clause-slid : goal.returns-clause-slid
returns-clause-slid c =
    let inside = c.self.inside in
    let words = c.args.words.now in
    let first = c.args.first in
    let count = length c.args.part.now in
    let part = c.try_slide_part.new.part in
    let all = words_now c.args.self.now words in
    let seen : found_in inside.edition (length words) c.deref.result.now c.deref-2.result.now inside.room ≡ c.args.self.now =
    found-seen inside.edition c.deref.result.now inside.heads.items c.deref-2.result.now inside.bits.items (length words) inside.count inside.room c.args.self.now
    (omega (arith, c.if-words-self.false)) c.deref.ensures.value c.deref-2.ensures.value c.self.view_is in
    let many : length all ≡ length c.args.self.now.indices = length-map c.args.self.now.indices (word_now c.args.self.now words) in
    let long : length part ≡ length (take count (drop first all)) =
    omega (arith, c.try_slide_part.ensures.length, length-take count (drop first all), length-drop first all, many, c.live_words-live.ensures, c.if-first-live.false, c.if-part-live.false) in
    on_ok_weaker c.try_slide_part.result (λ each. same_number_lists part (take count (drop first all)) long (λ k lt.
    let within : k < count = omega (arith, lt, c.try_slide_part.ensures.length) in
    each k within ∙ ap (λ (f : Found). get_or (words_now f words) (first + k) 0) seen
    ∙ sym (get_or-take count (drop first all) k 0 within ∙ get_or-drop first all k 0))) c.try_slide_part.ensures.words

pub returns-clause-as_found : goal.returns-clause-as_found
returns-clause-as_found c =
    let inside = c.self.inside in
    let words = c.args.words.now in
    let seen : found_in inside.edition (length words) c.deref.result.now c.deref-2.result.now inside.room ≡ c.args.self.now =
    found-seen inside.edition c.deref.result.now inside.heads.items c.deref-2.result.now inside.bits.items (length words) inside.count inside.room c.args.self.now
    (omega (arith, c.if-words-self.false)) c.deref.ensures.value c.deref-2.ensures.value c.self.view_is in
    on_ok_weaker c.try_slide_part.result (λ are. subst (λ (f : Found). IsAsFound f words c.args.first (length c.args.part.now)) seen (are inside.room)) c.try_slide_part.ensures.as_found

pub returns-clause-fault : goal.returns-clause-fault
returns-clause-fault c =
    let inside = c.self.inside in
    let words = c.args.words.now in
    let seen : found_in inside.edition (length words) c.deref.result.now c.deref-2.result.now inside.room ≡ c.args.self.now =
    found-seen inside.edition c.deref.result.now inside.heads.items c.deref-2.result.now inside.bits.items (length words) inside.count inside.room c.args.self.now
    (omega (arith, c.if-words-self.false)) c.deref.ensures.value c.deref-2.ensures.value c.self.view_is in
    IfErr-weaker c.try_slide_part.result _ _ (λ fault is. subst (λ (f : Found). IsSlideFault f words c.args.first (length c.args.part.now) fault) seen (is inside.room)) c.try_slide_part.ensures.fault

pub returns-clause-no_part : goal.returns-clause-no_part
returns-clause-no_part c =
    let inside = c.self.inside in
    let words = c.args.words.now in
    let first = c.args.first in
    let count = length c.args.part.now in
    let found : Found = found_in inside.edition (length words) c.deref.result.now c.deref-2.result.now inside.room in
    let seen : found ≡ c.args.self.now =
    found-seen inside.edition c.deref.result.now inside.heads.items c.deref-2.result.now inside.bits.items (length words) inside.count inside.room c.args.self.now
    (omega (arith, c.if-words-self.false)) c.deref.ensures.value c.deref-2.ensures.value c.self.view_is in
    let there : first + count ≤ length found.indices =
    omega (arith, ap (λ (f : Found). length f.indices) seen, c.live_words-live.ensures, c.if-first-live.false, c.if-part-live.false) in
    IfErr-weaker c.try_slide_part.result _ (λ (fault : SlideFault). fault ≡ slide.NoSuchPart → c.try_slide_part.new.part ≡ c.args.part.now) (λ fault is same.
    absurd (let less : length found.indices < first + count = subst (λ (f : SlideFault). IsSlideFault found words first count f) same (is inside.room) in
    omega (arith, less, there))) c.try_slide_part.ensures.fault

pub returns-clause-other_count : goal.returns-clause-other_count
returns-clause-other_count c =
    let inside = c.self.inside in
    let words = c.args.words.now in
    let first = c.args.first in
    let count = length c.args.part.now in
    let found : Found = found_in inside.edition (length words) c.deref.result.now c.deref-2.result.now inside.room in
    IfErr-weaker c.try_slide_part.result _ (λ (fault : SlideFault). fault ≡ slide.OtherCount → c.try_slide_part.new.part ≡ c.args.part.now) (λ fault is same.
    absurd (let other : IsSlideFault found words first count slide.OtherCount = subst (λ (f : SlideFault). IsSlideFault found words first count f) same (is inside.room) in
    other.1 refl)) c.try_slide_part.ensures.fault
