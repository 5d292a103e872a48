use Rattle.std.proofs.Common.{◌≡◌, ℕ, inl, inr, subst, arith}
use Rattle.heap_layout.specs.Header.{refs_of}
use Rattle.young_heap.specs.Cards.{header_word_of, is_dirty, last_weak_of, AreFound, AreGathered, AreGatheredWeak}
use Rattle.young_heap.proofs.Gathering.{found-next, gathered-next, on_err, rising-few}
use Rattle.young_heap.proofs.remembering.gather_card.Goals as goal

pub loop-j-init : goal.loop-j-init
loop-j-init c = record {
  found = c.requires.found;
  found_weak = c.requires.found_weak;
  gathered = λ row gathered. gathered;
  gathered_weak = λ row gathered. gathered;
  capacity = omega arith;
  weak_capacity = omega arith;
  owner_is = c.first_owner-owner.ensures.owner;
}

pub loop-j-preserved : goal.loop-j-preserved
loop-j-preserved c =
    let e = c.args.edition in
    let words = c.args.words.now in
    let starts = c.args.starts.now in
    let old = c.args.old in
    let asked = is_dirty c.args.cards.now in
    let j = c.loop-j.j in
    let owner = c.owner_of-owner.result in
    let now = c.owner_of-owner.ensures in
    let is = c.loop-j.invariant in
    let on_dirty = c.requires.dirty j (omega arith) (omega arith) in
    record {
      found = rw c.in_ok-gather.ensures.word (found-next e words starts old asked owner.start owner.last_ref j c.loop-j.fields.items is.found on_dirty);
      found_weak = rw c.in_ok-gather-2.ensures.word (found-next e words starts old asked owner.last_ref owner.last_weak j c.loop-j.weaks.items is.found_weak on_dirty);
      gathered = λ row gathered.
          let own = now.owner row (is.owner_is row) in
          rw c.in_ok-gather.ensures.word
          (gathered-next e words starts old asked header_word_of refs_of row (λ h. omega arith) owner owner.start owner.last_ref j c.loop-j.fields.items
          (omega arith) own.last_ref (is.gathered row gathered) own (now.inside row (is.owner_is row)) on_dirty);
      gathered_weak = λ row gathered.
          let own = now.owner row (is.owner_is row) in
          rw c.in_ok-gather-2.ensures.word
          (gathered-next e words starts old asked refs_of last_weak_of row (λ h. omega arith) owner owner.last_ref owner.last_weak j c.loop-j.weaks.items
          own.last_ref (omega (arith, own.last_ref, own.last_weak)) (is.gathered_weak row gathered) own (now.inside row (is.owner_is row)) on_dirty);
      capacity = omega (arith, c.gather.ensures.capacity, is.capacity);
      weak_capacity = omega (arith, c.gather-in-loop-j.ensures.capacity, is.weak_capacity);
      owner_is = λ row.
          let own = now.owner row (is.owner_is row) in
          record {
            start = own.start;
            low = own.low;
            from = omega (arith, own.from);
            to = omega (arith, now.inside row (is.owner_is row));
            last_ref = own.last_ref;
            last_weak = own.last_weak;
            ends = own.ends;
          };
    }

pub returns-clause-found : goal.returns-clause-found
returns-clause-found c =
    let same : c.loop-j.j ≡ c.args.end = omega (arith, c.loop-j-test.false, c.loop-j.auto.j-end (omega (arith, c.requires.order))) in
    subst (λ (n : ℕ). AreFound c.args.edition c.args.words.now c.args.starts.now c.args.old (is_dirty c.args.cards.now) n c.loop-j.fields.items) same c.loop-j.invariant.found

pub returns-clause-found_weak : goal.returns-clause-found_weak
returns-clause-found_weak c =
    let same : c.loop-j.j ≡ c.args.end = omega (arith, c.loop-j-test.false, c.loop-j.auto.j-end (omega (arith, c.requires.order))) in
    subst (λ (n : ℕ). AreFound c.args.edition c.args.words.now c.args.starts.now c.args.old (is_dirty c.args.cards.now) n c.loop-j.weaks.items) same c.loop-j.invariant.found_weak

pub returns-clause-gathered : goal.returns-clause-gathered
returns-clause-gathered c = λ row gathered.
    let same : c.loop-j.j ≡ c.args.end = omega (arith, c.loop-j-test.false, c.loop-j.auto.j-end (omega (arith, c.requires.order))) in
    subst (λ (n : ℕ). AreGathered c.args.edition c.args.words.now c.args.starts.now c.args.old (is_dirty c.args.cards.now) n c.loop-j.fields.items) same
    (c.loop-j.invariant.gathered row gathered)

pub returns-clause-gathered_weak : goal.returns-clause-gathered_weak
returns-clause-gathered_weak c = λ row gathered.
    let same : c.loop-j.j ≡ c.args.end = omega (arith, c.loop-j-test.false, c.loop-j.auto.j-end (omega (arith, c.requires.order))) in
    subst (λ (n : ℕ). AreGatheredWeak c.args.edition c.args.words.now c.args.starts.now c.args.old (is_dirty c.args.cards.now) n c.loop-j.weaks.items) same
    (c.loop-j.invariant.gathered_weak row gathered)

pub returns-in_err-gather-clause-full : goal.returns-in_err-gather-clause-full
returns-in_err-gather-clause-full c =
    let so_far = c.loop-j.invariant.found in
    let few = rising-few c.loop-j.fields.items c.loop-j.j so_far.rising so_far.below in
    on_err c.from_residual.result
    (inl (omega (arith, few, c.in_err-gather.ensures.full, c.loop-j.invariant.capacity, c.requires.inside, c.loop-j-test.true)))

pub returns-in_err-gather-2-clause-full : goal.returns-in_err-gather-2-clause-full
returns-in_err-gather-2-clause-full c =
    let so_far = c.loop-j.invariant.found_weak in
    let few = rising-few c.loop-j.weaks.items c.loop-j.j so_far.rising so_far.below in
    on_err c.from_residual-in_err-gather-2.result
    (inr (omega (arith, few, c.in_err-gather-2.ensures.full, c.loop-j.invariant.weak_capacity, c.requires.inside, c.loop-j-test.true)))
