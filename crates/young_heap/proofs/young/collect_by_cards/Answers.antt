use Rattle.std.proofs.Common.{◌≡◌, ℕ, false, List, inl, inr, sym, subst}
use Rattle.std.proofs.lemmas.Result.{IfErr-weaker, IfOk-weaker}
use Rattle.reachability.specs.Queue.{has}
use Rattle.young_heap.specs.Cards.{is_dirty}
use Rattle.young_heap.specs.Refusals.{IsYoungFaultOf}
use Rattle.young_heap.specs.Young.{AreFieldsBelow, AreRemembered, HasCollectedYoung}
use Rattle.young_heap.proofs.Gathering.{found-below, found-not, gathered-remembered}
use Rattle.young_heap.proofs.young.collect_by_cards.Goals as goal

pub collect_remembered-requires-clause-fields : goal.collect_remembered-requires-clause-fields
collect_remembered-requires-clause-fields c =
    subst (AreFieldsBelow c.args.old) (sym c.deref.ensures.value)
    (found-below c.args.edition c.args.words.now c.args.heads.now c.args.old (is_dirty c.args.cards.now) c.remember.new.fields.items c.in-Ok.ensures.found)

pub collect_remembered-requires-clause-weaks : goal.collect_remembered-requires-clause-weaks
collect_remembered-requires-clause-weaks c =
    subst (AreFieldsBelow c.args.old) (sym c.deref-2.ensures.value)
    (found-below c.args.edition c.args.words.now c.args.heads.now c.args.old (is_dirty c.args.cards.now) c.remember.new.weaks.items c.in-Ok.ensures.found_weak)

pub returns-clause-collected : goal.returns-clause-collected
returns-clause-collected c = IfOk-weaker c.collect_remembered.result _ _ (λ live is premise clean.
    let e = c.args.edition in
    let old = c.args.old in
    let words = c.args.words.now in
    let heads = c.args.heads.now in
    let fields = c.remember.new.fields.items in
    let weaks = c.remember.new.weaks.items in
    let same = c.deref.ensures.value in
    let gathered = c.in-Ok.ensures.gathered premise in
    let remembered = gathered-remembered e words heads old (is_dirty c.args.cards.now) fields weaks clean gathered (c.in-Ok.ensures.gathered_weak premise) premise in
    let lent = subst (λ (fs : List ℕ). AreRemembered e words heads old fs c.deref-2.result.now) (sym same)
    (subst (λ (ws : List ℕ). AreRemembered e words heads old fields ws) (sym c.deref-2.ensures.value) remembered) in (
      fields,
      gathered,
      subst (λ (fs : List ℕ). HasCollectedYoung e words c.args.roots.now heads old fs live c.collect_remembered.new.roots c.collect_remembered.new.words) same (is premise lent),
    )) c.collect_remembered.ensures.collected

pub returns-clause-next : goal.returns-clause-next
returns-clause-next c = IfOk-weaker c.collect_remembered.result _ _ (λ live is premise clean.
    let e = c.args.edition in
    let old = c.args.old in
    let words = c.args.words.now in
    let heads = c.args.heads.now in
    let fields = c.remember.new.fields.items in
    let weaks = c.remember.new.weaks.items in
    let remembered = gathered-remembered e words heads old (is_dirty c.args.cards.now) fields weaks clean (c.in-Ok.ensures.gathered premise) (c.in-Ok.ensures.gathered_weak premise) premise in
    is premise (subst (λ (fs : List ℕ). AreRemembered e words heads old fs c.deref-2.result.now) (sym c.deref.ensures.value)
    (subst (λ (ws : List ℕ). AreRemembered e words heads old fields ws) (sym c.deref-2.ensures.value) remembered))) c.collect_remembered.ensures.next

pub returns-clause-clean : goal.returns-clause-clean
returns-clause-clean c = IfOk-weaker c.collect_remembered.result _ _ (λ live is premise clean.
    let e = c.args.edition in
    let old = c.args.old in
    let words = c.args.words.now in
    let heads = c.args.heads.now in
    let fields = c.remember.new.fields.items in
    let weaks = c.remember.new.weaks.items in
    let remembered = gathered-remembered e words heads old (is_dirty c.args.cards.now) fields weaks clean (c.in-Ok.ensures.gathered premise) (c.in-Ok.ensures.gathered_weak premise) premise in
    is premise (subst (λ (fs : List ℕ). AreRemembered e words heads old fs c.deref-2.result.now) (sym c.deref.ensures.value)
    (subst (λ (ws : List ℕ). AreRemembered e words heads old fields ws) (sym c.deref-2.ensures.value) remembered))) c.collect_remembered.ensures.clean

pub returns-clause-clean_stay : goal.returns-clause-clean_stay
returns-clause-clean_stay c = λ j low clean.
    let e = c.args.edition in
    let words = c.args.words.now in
    let heads = c.args.heads.now in
    let asked = is_dirty c.args.cards.now in
    c.collect_remembered.ensures.others j low
    (subst (λ (fs : List ℕ). has fs j ≡ false) (sym c.deref.ensures.value)
    (found-not e words heads c.args.old asked c.remember.new.fields.items c.in-Ok.ensures.found j (inl clean)))
    (subst (λ (fs : List ℕ). has fs j ≡ false) (sym c.deref-2.ensures.value)
    (found-not e words heads c.args.old asked c.remember.new.weaks.items c.in-Ok.ensures.found_weak j (inl clean)))

pub returns-clause-below_stay : goal.returns-clause-below_stay
returns-clause-below_stay c = λ j low led.
    let e = c.args.edition in
    let words = c.args.words.now in
    let heads = c.args.heads.now in
    let asked = is_dirty c.args.cards.now in
    c.collect_remembered.ensures.others j low
    (subst (λ (fs : List ℕ). has fs j ≡ false) (sym c.deref.ensures.value)
    (found-not e words heads c.args.old asked c.remember.new.fields.items c.in-Ok.ensures.found j (inr led)))
    (subst (λ (fs : List ℕ). has fs j ≡ false) (sym c.deref-2.ensures.value)
    (found-not e words heads c.args.old asked c.remember.new.weaks.items c.in-Ok.ensures.found_weak j (inr led)))

pub returns-clause-fault : goal.returns-clause-fault
returns-clause-fault c = IfErr-weaker c.collect_remembered.result _ _ (λ fault is other.
    let e = c.args.edition in
    let old = c.args.old in
    let words = c.args.words.now in
    let roots = c.args.roots.now in
    let heads = c.args.heads.now in
    let fields = c.remember.new.fields.items in
    let weaks = c.remember.new.weaks.items in
    let found = c.in-Ok.ensures in (
      fields,
      weaks,
      found.found,
      found.found_weak,
      found.gathered,
      found.gathered_weak,
      subst (λ (fs : List ℕ). IsYoungFaultOf e words roots heads old fs weaks fault) c.deref.ensures.value
          (subst (λ (ws : List ℕ). IsYoungFaultOf e words roots heads old c.deref.result.now ws fault) c.deref-2.ensures.value is),
    )) c.collect_remembered.ensures.fault

pub returns-clause-short : goal.returns-clause-short
returns-clause-short c = IfErr-weaker c.collect_remembered.result _ _ (λ fault is out. inr (inr (is out))) c.collect_remembered.ensures.short
