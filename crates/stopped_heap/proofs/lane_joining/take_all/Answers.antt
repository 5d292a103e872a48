use Rattle.std.proofs.Common.{◌≡◌, ℕ, true, false, get_or, inl, inr, refl, sym, subst, ◌∙◌, arith, below_more}
use Rattle.std.proofs.lemmas.Bool.{both_ways, cases_Bool, cases_eq}
use Rattle.heap_layout.specs.Bits.{bit}
use Rattle.stopped_heap.proofs.LanesJoined.{at-next}
use Rattle.stopped_heap.proofs.lane_joining.take_all.Goals as goal

pub loop-k-init : goal.loop-k-init
loop-k-init c = record {
  queue = refl;
  has = λ k lt. absurd (omega (arith, lt));
  knows = λ k lt. absurd (omega (arith, lt));
  more = λ i set. set;
  stay = λ i set. set;
  told = λ i set. inl set;
  met = c.requires.met;
  once = c.requires.once;
  known = refl;
  heads = refl;
}

pub returns-in_default-clause-fault : goal.returns-in_default-clause-fault
returns-in_default-clause-fault c =
    let i = get_or c.args.indices.now c.loop-k.k 0 in
    let off : bit c.args.heads.now i ≡ false = elim (cases_Bool (bit c.args.heads.now i)) [
      | inl on ↦ absurd (both_ways (bit c.loop-k.heads i) c.in_default.ensures.lack (c.loop-k.invariant.stay i on))
      | inr none ↦ none
    ] in
    (c.loop-k.k, omega (arith, c.loop-k-test.true), omega (arith, c.if-index-count.false), off)

pub loop-k-preserved : goal.loop-k-preserved
loop-k-preserved c =
    let inv = c.loop-k.invariant in
    let k = c.loop-k.k in
    let indices = c.args.indices.now in
    let i = get_or indices k 0 in
    let step = c.in-Ok.ensures in
    let known_stay : (j : ℕ) → bit c.loop-k.known j ≡ true → bit c.set.new.bits j ≡ true = λ j set. elim (cases_eq j i) [
      | inl same ↦ subst (λ (n : ℕ). bit c.set.new.bits n ≡ true) (sym same) c.set.ensures.here
      | inr other ↦ c.set.ensures.elsewhere j other ∙ set
    ] in
    record {
      queue = at-next c.args.queue.now.items c.loop-k.queue.items c.let_wait.new.queue.items indices k (omega (arith, c.loop-k-test.true)) step.queue inv.queue;
      has = below_more _ _ (λ n lt. step.stay (get_or indices n 0) (inv.has n lt)) step.here;
      knows = below_more _ _ (λ n lt. known_stay (get_or indices n 0) (inv.knows n lt)) c.set.ensures.here;
      more = λ j set. known_stay j (inv.more j set);
      stay = λ j set. step.stay j (inv.stay j set);
      told = λ j set. elim (cases_eq j i) [
        | inl same ↦ inr (k, omega (arith, c.loop-k-test.true), sym same)
        | inr other ↦ inv.told j (sym (c.set.ensures.elsewhere j other) ∙ set)
      ];
      met = step.met;
      once = step.once;
      known = c.set.ensures.length ∙ inv.known;
      heads = c.let_wait.ensures.heads ∙ inv.heads;
    }
