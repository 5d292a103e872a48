use Rattle.std.proofs.Common.{◌≡◌, ℕ, ◌<◌, ◌≤◌, false, length, get_or, inl, inr, ap, subst, arith}
use Rattle.std.proofs.lemmas.Bool.{both_ways, cases_lt}
use Rattle.heap_layout.specs.Header.{refs_of}
use Rattle.reachability.specs.Queue.{has}
use Rattle.reachability.proofs.Queues.{place-of}
use Rattle.young_heap.specs.Cards.{header_word_of, last_weak_of}
use Rattle.young_heap.specs.Listing.{IsField}
use Rattle.young_heap.proofs.Gathering.{found-skip, gathered-skip}
use Rattle.young_heap.proofs.Listed.{none-listed}
use Rattle.young_heap.proofs.listing.remember_by.Goals as goal
use Rattle.young_heap.proofs.listing.remember_by.Goals.{then-j-next+in_ok-gather_word, else-j-next}

pub gather_word-requires-clause-found : goal.gather_word-requires-clause-found
gather_word-requires-clause-found c =
    found-skip c.args.edition c.args.words.now c.args.starts.now c.args.old (has c.args.list.now) c.loop-k.next _ c.loop-k.fields.items c.loop-k.invariant.found
    (omega (arith, c.if-j-next.true))

pub gather_word-requires-clause-found_weak : goal.gather_word-requires-clause-found_weak
gather_word-requires-clause-found_weak c =
    found-skip c.args.edition c.args.words.now c.args.starts.now c.args.old (has c.args.list.now) c.loop-k.next _ c.loop-k.weaks.items c.loop-k.invariant.found_weak
    (omega (arith, c.if-j-next.true))

pub loop-k-preserved : goal.loop-k-preserved
loop-k-preserved c =
    let e = c.args.edition in
    let words = c.args.words.now in
    let starts = c.args.starts.now in
    let old = c.args.old in
    let list = c.args.list.now in
    let k = c.loop-k.k in
    let next = c.loop-k.next in
    let fields = c.loop-k.fields.items in
    let weaks = c.loop-k.weaks.items in
    let is = c.loop-k.invariant in
    let j = get_or list k 0 in
    let known : k < length list = omega (arith, c.loop-k-test.true) in
    elim c.if-j-next.branch [
      | then-j-next+in_ok-gather_word w ↦ rw (w.fields-is, w.weaks-is, w.next-is) (
          let none : (i : ℕ) → next ≤ i → i < j → has list i ≡ false = λ i from to. none-listed list c.requires.sorted k next is.before i from (λ _. to) in
          let up : next ≤ j = omega (arith, w.if-j-next.true) in
          let done = w.in_ok-gather_word.ensures in
          record {
            found = done.found;
            found_weak = done.found_weak;
            gathered = λ row. done.gathered row (gathered-skip e words starts old (has list) header_word_of refs_of next j fields (is.gathered row) up none);
            gathered_weak = λ row. done.gathered_weak row (gathered-skip e words starts old (has list) refs_of last_weak_of next j weaks (is.gathered_weak row) up none);
            fields_are = λ row i there less. elim (cases_lt i next) [
              | inl earlier ↦ is.fields_are row i there earlier
              | inr later ↦ elim (cases_lt i j) [
                | inl between ↦ absurd (both_ways (has list i) (none i later between) there)
                | inr here ↦
                    let same : j ≡ i = omega (arith, less, here) in
                    subst (λ (n : ℕ). IsField e words starts old n) same (done.field row)
              ]
            ];
            before = λ m less. elim (cases_lt m k) [
              | inl earlier ↦ (let low = is.before m earlier in omega (arith, low, up))
              | inr here ↦
                  let same : m ≡ k = omega (arith, less, here) in
                  let at = ap (λ (n : ℕ). get_or list n 0) same in
                  omega (arith, at)
            ];
            low = omega (arith, c.if-list-k.false);
            capacity = omega (arith, w.gather_word.ensures.capacity, is.capacity);
            weak_capacity = omega (arith, w.gather_word.ensures.weak_capacity, is.weak_capacity);
          })
      | else-j-next w ↦ rw (w.fields-is, w.weaks-is, w.next-is) (
          let low : j < next = omega (arith, w.if-j-next.false) in
          record {
            found = is.found;
            found_weak = is.found_weak;
            gathered = is.gathered;
            gathered_weak = is.gathered_weak;
            fields_are = is.fields_are;
            before = λ m less. elim (cases_lt m k) [
              | inl earlier ↦ is.before m earlier
              | inr here ↦
                  let same : m ≡ k = omega (arith, less, here) in
                  let at = ap (λ (n : ℕ). get_or list n 0) same in
                  omega (arith, at, low)
            ];
            low = is.low;
            capacity = is.capacity;
            weak_capacity = is.weak_capacity;
          })
    ]

pub returns-clause-gathered : goal.returns-clause-gathered
returns-clause-gathered c = λ row.
    let list = c.args.list.now in
    let is = c.loop-k.invariant in
    gathered-skip c.args.edition c.args.words.now c.args.starts.now c.args.old (has list) header_word_of refs_of c.loop-k.next c.args.old c.loop-k.fields.items (is.gathered row) is.low
    (λ i from to. none-listed list c.requires.sorted c.loop-k.k c.loop-k.next is.before i from (λ known. absurd (omega (arith, known, c.loop-k-test.false))))

pub returns-clause-gathered_weak : goal.returns-clause-gathered_weak
returns-clause-gathered_weak c = λ row.
    let list = c.args.list.now in
    let is = c.loop-k.invariant in
    gathered-skip c.args.edition c.args.words.now c.args.starts.now c.args.old (has list) refs_of last_weak_of c.loop-k.next c.args.old c.loop-k.weaks.items (is.gathered_weak row) is.low
    (λ i from to. none-listed list c.requires.sorted c.loop-k.k c.loop-k.next is.before i from (λ known. absurd (omega (arith, known, c.loop-k-test.false))))

pub returns-clause-fields : goal.returns-clause-fields
returns-clause-fields c = λ row i there.
    let list = c.args.list.now in
    let at = place-of list i there in
    let low = c.loop-k.invariant.before at.0 (omega (arith, at.1, c.loop-k-test.false)) in
    c.loop-k.invariant.fields_are row i there (omega (arith, low, at.2))
