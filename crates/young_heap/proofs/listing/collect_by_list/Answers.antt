use Rattle.std.proofs.Common.{ℕ, List, sym, subst}
use Rattle.reachability.specs.Queue.{has}
use Rattle.young_heap.specs.Refusals.{IsYoungFaultOf}
use Rattle.young_heap.specs.Young.{AreRemembered, HasCollectedYoung}
use Rattle.young_heap.proofs.Gathering.{gathered-remembered}
use Rattle.young_heap.proofs.listing.collect_by_list.Goals as goal

pub returns-in-Ok-collected-clause-collected : goal.returns-in-Ok-collected-clause-collected
returns-in-Ok-collected-clause-collected c = λ premise listed.
    let e = c.args.edition in
    let old = c.args.old in
    let words = c.args.words.now in
    let heads = c.args.heads.now in
    let fields = c.remember_by.new.fields.items in
    let weaks = c.remember_by.new.weaks.items in
    let same = c.deref.ensures.value in
    let now = c.collect_remembered-collected.new in
    let gathered = c.in-Ok.ensures.gathered premise in
    let remembered = gathered-remembered e words heads old (has c.args.list.now) fields weaks listed gathered (c.in-Ok.ensures.gathered_weak premise) premise in
    let lent = subst (λ (fs : List ℕ). AreRemembered e words heads old fs c.deref-2.result.now) (sym same)
    (subst (λ (ws : List ℕ). AreRemembered e words heads old fields ws) (sym c.deref-2.ensures.value) remembered) in (
      fields,
      gathered,
      subst (λ (fs : List ℕ). HasCollectedYoung e words c.args.roots.now heads old fs c.in-Ok-collected.live now.roots now.words) same (c.in-Ok-collected.ensures.collected premise lent),
    )

pub returns-in-Ok-collected-clause-next : goal.returns-in-Ok-collected-clause-next
returns-in-Ok-collected-clause-next c = λ premise listed.
    let e = c.args.edition in
    let old = c.args.old in
    let words = c.args.words.now in
    let heads = c.args.heads.now in
    let fields = c.remember_by.new.fields.items in
    let weaks = c.remember_by.new.weaks.items in
    let found = c.in-Ok.ensures in
    let remembered = gathered-remembered e words heads old (has c.args.list.now) fields weaks listed (found.gathered premise) (found.gathered_weak premise) premise in
    c.in-Ok-collected.ensures.next premise (subst (λ (fs : List ℕ). AreRemembered e words heads old fs c.deref-2.result.now) (sym c.deref.ensures.value)
    (subst (λ (ws : List ℕ). AreRemembered e words heads old fields ws) (sym c.deref-2.ensures.value) remembered))

pub returns-in-Ok-collected-clause-clean : goal.returns-in-Ok-collected-clause-clean
returns-in-Ok-collected-clause-clean c = λ premise listed.
    let e = c.args.edition in
    let old = c.args.old in
    let words = c.args.words.now in
    let heads = c.args.heads.now in
    let fields = c.remember_by.new.fields.items in
    let weaks = c.remember_by.new.weaks.items in
    let found = c.in-Ok.ensures in
    let remembered = gathered-remembered e words heads old (has c.args.list.now) fields weaks listed (found.gathered premise) (found.gathered_weak premise) premise in
    c.in-Ok-collected.ensures.clean premise (subst (λ (fs : List ℕ). AreRemembered e words heads old fs c.deref-2.result.now) (sym c.deref.ensures.value)
    (subst (λ (ws : List ℕ). AreRemembered e words heads old fields ws) (sym c.deref-2.ensures.value) remembered))

pub returns-in-Err-clause-fault : goal.returns-in-Err-clause-fault
returns-in-Err-clause-fault c = λ other.
    let e = c.args.edition in
    let old = c.args.old in
    let words = c.args.words.now in
    let roots = c.args.roots.now in
    let heads = c.args.heads.now in
    let fields = c.remember_by.new.fields.items in
    let weaks = c.remember_by.new.weaks.items in
    let fault = c.in-Err.fault in
    let found = c.in-Ok.ensures in (
      found.fields,
      (
        fields,
        weaks,
        found.found,
        found.found_weak,
        found.gathered,
        found.gathered_weak,
        subst (λ (fs : List ℕ). IsYoungFaultOf e words roots heads old fs weaks fault) c.deref.ensures.value
            (subst (λ (ws : List ℕ). IsYoungFaultOf e words roots heads old c.deref.result.now ws fault) c.deref-2.ensures.value c.in-Err.ensures.fault),
      ),
    )
