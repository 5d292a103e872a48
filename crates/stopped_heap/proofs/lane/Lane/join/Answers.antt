use Rattle.std.proofs.Common.{rules, ◌≡◌, ℕ, ◌+◌, List, length, sym, ap, subst, ◌∙◌, arith}
use Rattle.std.proofs.lemmas.Bool.{both_ways}
use Rattle.heap_layout.specs.declared.edition.Edition.{Edition}
use Rattle.heap_layout.specs.Bits.{bit}
use Rattle.rest_marks.specs.LaneParts.{joined_met, AreBoth, AreDisjoint}
use Rattle.rest_marks.specs.Lanes.{Laned, AreLanedIn}
use Rattle.rest_marks.specs.Looks.{AreLookedAt}
use Rattle.rest_marks.specs.Meeting.{AreOnce}
use Rattle.stopped_heap.proofs.LanesJoined.{joined-are-met, joined-long, joined-looked, joined-once}
use Rattle.stopped_heap.proofs.lane.Lane.join.Goals as goal

pub invariant_of-result : goal.invariant_of-result
invariant_of-result c =
    let a = c.self.inside in
    let b = c.other.inside in
    let is : c.join_queues.new.queue.items ≡ joined_met a.queue.items a.next b.queue.items b.next =
    c.in-Ok.ensures ∙ ap (λ (q : List ℕ). joined_met a.queue.items a.next q b.next) c.deref-5.ensures.value in
    let counted : b.count ≡ a.count = omega (arith, c.if-count-other_count.false) in
    let first = subst (λ (ys : List ℕ). AreDisjoint c.deref.result.now ys) c.deref-2.ensures.value c.in_default.ensures.none in
    let apart : AreDisjoint a.heads.items b.heads.items = subst (λ (xs : List ℕ). AreDisjoint xs b.heads.items) c.deref.ensures.value first in
    let other_once = subst (λ (n : ℕ). AreOnce n b.queue.items) counted c.other.invariant.5 in (
      c.self.invariant.0,
      omega (arith, c.united-2.ensures.length, c.self.invariant.1),
      omega (arith, c.united-3.ensures.length, c.self.invariant.2),
      omega (arith, c.united.ensures.length, c.self.invariant.3),
      rw is (joined-are-met a.queue.items a.next b.queue.items b.next a.heads.items b.heads.items c.united-2.result.items
          c.self.invariant.4 c.other.invariant.4 c.united-2.ensures.both),
      rw is (joined-once a.queue.items a.next b.queue.items b.next a.count c.self.invariant.5 other_once
          (λ i one two. both_ways (bit b.heads.items i) (apart i (c.self.invariant.4 i ∙ one)) (c.other.invariant.4 i ∙ two))),
      omega (arith, joined-long a.queue.items a.next b.queue.items b.next c.self.invariant.6 c.other.invariant.6, ap (λ (xs : List ℕ). length xs) is),
    )

pub returns-clause-known : goal.returns-clause-known
returns-clause-known c =
    let both = c.united.result.items in
    subst (λ (s : Laned). AreBoth s.known c.args.other.known both) c.self.view_is
    (subst (λ (o : Laned). AreBoth c.self.inside.known.items o.known both) c.other.view_is c.united.ensures.both)

pub returns-clause-heads : goal.returns-clause-heads
returns-clause-heads c =
    let both = c.united-2.result.items in
    subst (λ (s : Laned). AreBoth s.own.heads c.args.other.own.heads both) c.self.view_is
    (subst (λ (o : Laned). AreBoth c.self.inside.heads.items o.own.heads both) c.other.view_is c.united-2.ensures.both)

pub returns-clause-bits : goal.returns-clause-bits
returns-clause-bits c =
    let both = c.united-3.result.items in
    subst (λ (s : Laned). AreBoth s.own.bits c.args.other.own.bits both) c.self.view_is
    (subst (λ (o : Laned). AreBoth c.self.inside.bits.items o.own.bits both) c.other.view_is c.united-3.ensures.both)

pub returns-clause-apart : goal.returns-clause-apart
returns-clause-apart c =
    let first = subst (λ (ys : List ℕ). AreDisjoint c.deref.result.now ys) c.deref-2.ensures.value c.in_default.ensures.none in
    let apart = subst (λ (xs : List ℕ). AreDisjoint xs c.other.inside.heads.items) c.deref.ensures.value first in
    subst (λ (s : Laned). AreDisjoint s.own.heads c.args.other.own.heads) c.self.view_is
    (subst (λ (o : Laned). AreDisjoint c.self.inside.heads.items o.own.heads) c.other.view_is apart)

pub returns-clause-apart_words : goal.returns-clause-apart_words
returns-clause-apart_words c =
    let first = subst (λ (ys : List ℕ). AreDisjoint c.deref-3.result.now ys) c.deref-4.ensures.value c.in_default-first_common.ensures.none in
    let apart = subst (λ (xs : List ℕ). AreDisjoint xs c.other.inside.bits.items) c.deref-3.ensures.value first in
    subst (λ (s : Laned). AreDisjoint s.own.bits c.args.other.own.bits) c.self.view_is
    (subst (λ (o : Laned). AreDisjoint c.self.inside.bits.items o.own.bits) c.other.view_is apart)

pub returns-clause-looked : goal.returns-clause-looked
returns-clause-looked c = λ words one two.
    let a = c.self.inside in
    let b = c.other.inside in
    let is : c.join_queues.new.queue.items ≡ joined_met a.queue.items a.next b.queue.items b.next =
    c.in-Ok.ensures ∙ ap (λ (q : List ℕ). joined_met a.queue.items a.next q b.next) c.deref-5.ensures.value in
    let first = subst (λ (ys : List ℕ). AreDisjoint c.deref-3.result.now ys) c.deref-4.ensures.value c.in_default-first_common.ensures.none in
    let apart = subst (λ (xs : List ℕ). AreDisjoint xs b.bits.items) c.deref-3.ensures.value first in
    let seen_a = subst (λ (s : Laned). AreLanedIn s words) (sym c.self.view_is) one in
    let seen_b = subst (λ (s : Laned). AreLanedIn s words) (sym c.other.view_is) two in
    let same : b.edition ≡ a.edition = search rules in
    let moved = subst (λ (e : Edition). AreLookedAt e words b.queue.items b.next b.known.items b.bits.items) same seen_b in
    subst (λ (q : List ℕ). AreLookedAt a.edition words q (a.next + b.next) c.united.result.items c.united-3.result.items) (sym is)
    (joined-looked a.queue.items a.next b.queue.items b.next c.self.invariant.6 c.other.invariant.6
    a.edition words a.known.items b.known.items c.united.result.items a.bits.items b.bits.items c.united-3.result.items
    seen_a moved apart c.united-3.ensures.both c.united.ensures.both)
