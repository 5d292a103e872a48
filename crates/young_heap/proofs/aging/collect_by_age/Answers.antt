use Rattle.std.proofs.Common.{◌≡◌, ℕ, false, [], List, get_or, inl, inr, sym, subst}
use Rattle.std.proofs.lemmas.Bool.{both_ways, cases_Bool}
use Rattle.std.proofs.lemmas.Result.{err_from_is_err_and}
use Rattle.reachability.specs.Queue.{has}
use Rattle.young_heap.specs.Cards.{is_dirty}
use Rattle.young_heap.specs.Dirty.{AreMarked, IsAsked}
use Rattle.young_heap.specs.Refusals.{IsYoungFaultOf}
use Rattle.young_heap.specs.Young.{is_below_led, AreKeptYoung, AreRemembered}
use Rattle.young_heap.proofs.Gathering.{gathered-remembered}
use Rattle.young_heap.proofs.Made.{made-cards}
use Rattle.young_heap.proofs.aging.collect_by_age.Goals as goal

pub returns-in_err-live-clause-fault : goal.returns-in_err-live-clause-fault
returns-in_err-live-clause-fault c =
    let e = c.args.edition in
    let old = c.args.old in
    let words = c.args.words.now in
    let roots = c.args.roots.now in
    let heads = c.args.heads.now in
    let fields = c.remember.new.fields.items in
    let weaks = c.remember.new.weaks.items in
    let fault = c.in_err-live.field-0.0 in
    let found = c.in-Ok.ensures in
    let is = subst (λ (fs : List ℕ). IsYoungFaultOf e words roots heads old fs weaks fault) c.deref.ensures.value
    (subst (λ (ws : List ℕ). IsYoungFaultOf e words roots heads old c.deref.result.now ws fault) c.deref-2.ensures.value c.in_err-live.ensures.fault) in
    let p = err_from_is_err_and c.from_residual.result c.from_residual.ensures.1 in
    rw (p.1, p.2) (λ other. (fields, weaks, found.found, found.found_weak, found.gathered, found.gathered_weak, is))

pub returns-clause-aged : goal.returns-clause-aged
returns-clause-aged c = λ premise clean.
    let e = c.args.edition in
    let old = c.args.old in
    let words = c.args.words.now in
    let heads = c.args.heads.now in
    let fields = c.remember.new.fields.items in
    let weaks = c.remember.new.weaks.items in
    let same = c.deref.ensures.value in
    let gathered = c.in-Ok.ensures.gathered premise in
    let remembered = gathered-remembered e words heads old (is_dirty c.args.cards.now) fields weaks clean gathered (c.in-Ok.ensures.gathered_weak premise) premise in
    let lent = subst (λ (fs : List ℕ). AreRemembered e words heads old fs c.deref-2.result.now) (sym same)
    (subst (λ (ws : List ℕ). AreRemembered e words heads old fields ws) (sym c.deref-2.ensures.value) remembered) in
    let found = c.in_ok-live.ensures.parted premise lent in
    (fields, gathered, found.0, subst (λ (fs : List ℕ). AreKeptYoung e words c.args.roots.now heads old fs found.0) same found.1, found.2)

pub returns-clause-next : goal.returns-clause-next
returns-clause-next c = λ premise clean.
    let e = c.args.edition in
    let old = c.args.old in
    let words = c.args.words.now in
    let heads = c.args.heads.now in
    let fields = c.remember.new.fields.items in
    let weaks = c.remember.new.weaks.items in
    let remembered = gathered-remembered e words heads old (is_dirty c.args.cards.now) fields weaks clean (c.in-Ok.ensures.gathered premise) (c.in-Ok.ensures.gathered_weak premise) premise in
    c.in_ok-live.ensures.next premise
    (subst (λ (fs : List ℕ). AreRemembered e words heads old fs c.deref-2.result.now) (sym c.deref.ensures.value)
    (subst (λ (ws : List ℕ). AreRemembered e words heads old fields ws) (sym c.deref-2.ensures.value) remembered))

pub returns-clause-made : goal.returns-clause-made
returns-clause-made c = λ premise clean.
    let e = c.args.edition in
    let old = c.args.old in
    let words = c.args.words.now in
    let heads = c.args.heads.now in
    let after = c.collect_parted.new.words in
    let next = c.collect_parted.new.heads in
    let middle = c.in_ok-live.middle in
    let fields = c.remember.new.fields.items in
    let weaks = c.remember.new.weaks.items in
    let cards = c.make_cards.new.cards in
    let marked = subst (λ (fs : List ℕ). AreMarked [] cards (λ n. IsAsked e after next old middle fs weaks n)) c.deref-3.ensures.value
    (subst (λ (ws : List ℕ). AreMarked [] cards (λ n. IsAsked e after next old middle c.deref-3.result.now ws n)) c.deref-4.ensures.value c.make_cards.ensures.marked) in
    made-cards e words after heads next old middle c.args.cards.now cards fields weaks premise clean (c.in-Ok.ensures.gathered premise) (c.in-Ok.ensures.gathered_weak premise)
    (returns-clause-next c premise clean) c.in_ok-live.ensures.heads_stay c.in_ok-live.ensures.bounds.0
    (λ j low no_field no_weak. c.in_ok-live.ensures.others j low (subst (λ (fs : List ℕ). has fs j ≡ false) (sym c.deref.ensures.value) no_field)
    (subst (λ (ws : List ℕ). has ws j ≡ false) (sym c.deref-2.ensures.value) no_weak)) marked

pub returns-clause-below_stay : goal.returns-clause-below_stay
returns-clause-below_stay c = λ j low led.
    let e = c.args.edition in
    let word = is_below_led e c.args.heads.now c.args.old (get_or c.args.words.now j 0) in
    let fields = c.remember.new.fields.items in
    let weaks = c.remember.new.weaks.items in
    let no_field : has fields j ≡ false = elim (cases_Bool (has fields j)) [
      | inr none ↦ none
      | inl there ↦ absurd (both_ways word (c.in-Ok.ensures.found.above j there) led)
    ] in
    let no_weak : has weaks j ≡ false = elim (cases_Bool (has weaks j)) [
      | inr none ↦ none
      | inl there ↦ absurd (both_ways word (c.in-Ok.ensures.found_weak.above j there) led)
    ] in
    c.in_ok-live.ensures.others j low (subst (λ (fs : List ℕ). has fs j ≡ false) (sym c.deref.ensures.value) no_field)
    (subst (λ (ws : List ℕ). has ws j ≡ false) (sym c.deref-2.ensures.value) no_weak)
