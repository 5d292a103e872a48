-- What was done with the first objects of the queue, which stand above the old ones.
use Rattle.std.proofs.Common.{◌≡◌, ℕ, ◌+◌, ◌<◌, ◌≤◌, true, false, List, length, get_or, fold, inl, inr, sym, ap, subst, ◌∙◌, arith}
use Rattle.std.proofs.lemmas.Bool.{cases_lt, cases_order, both_ways}
use Rattle.heap_layout.specs.declared.edition.Edition.{Edition}
use Rattle.heap_layout.specs.Bits.{bit}
use Rattle.heap_layout.specs.Header.{size_of}
use Rattle.heap_layout.specs.Heap.{header_at, object_at, IsPlaced}
use Rattle.mark_tables.proofs.Runs.{IsRunSet}
use Rattle.reachability.specs.Queue.{after_word}
use Rattle.reachability.proofs.Queues.{places, place-of, has-at}
use Rattle.rest_marks.specs.Meeting.{AllLead}
use Rattle.rest_marks.specs.Reached.{IsWordOf}
use Rattle.rest_marks.proofs.Reaching.{references_of}
use Rattle.rest_marks.proofs.Spread.{AreDisjoint}
use Rattle.young_heap.specs.Young.{is_above, AllLed, AreMetAbove, IsDoneAbove}

module _ (edition : Edition) (starts : List ℕ) (old : ℕ) (words : List ℕ) where
  -- The bits of the first `next` objects of the queue are set, and no others from bit `old` on; these objects are
  -- placed above, and do not overlap.
  pub record IsSpread (queue : List ℕ) (next : ℕ) (heads bits : List ℕ) : Type 0 where
    pub met : AreMetAbove old queue heads
    pub same : length heads ≡ length bits
    pub done : (k : ℕ) → k < next → IsDoneAbove edition starts old words bits (get_or queue k 0)
    pub above : (k : ℕ) → k < next → old ≤ get_or queue k 0
    pub only : (j : ℕ) → old ≤ j → bit bits j ≡ true → (k : ℕ) × (k < next) × IsWordOf edition words (get_or queue k 0) j
    pub apart : (k l : ℕ) → k < l → l < next → AreDisjoint edition words (get_or queue k 0) (get_or queue l 0)

  -- before the first object
  pub spread-first : (queue heads bits : List ℕ) → AreMetAbove old queue heads → length heads ≡ length bits
      → ((j : ℕ) → old ≤ j → bit bits j ≡ false) → IsSpread queue 0 heads bits
  spread-first queue heads bits met same none = record {
    met = met;
    same = same;
    done = λ k lt. absurd (omega (arith, lt));
    above = λ k lt. absurd (omega (arith, lt));
    only = λ j above set. absurd (both_ways (bit bits j) (none j above) set);
    apart = λ k l order lt. absurd (omega (arith, lt));
  }

  -- one object more
  pub spread-next : (before : List ℕ) (next : ℕ) (new old_heads old_bits heads bits : List ℕ) → IsSpread before next old_heads old_bits
      → next < length before → new ≡ fold (after_word (is_above old (length words))) before (references_of edition words (get_or before next 0)) → AreMetAbove old new heads
      → length heads ≡ length bits → old ≤ get_or before next 0 → IsPlaced edition words (get_or before next 0)
      → IsRunSet (get_or before next 0) (size_of (header_at edition words (get_or before next 0))) old_bits bits
      → ((j : ℕ) → IsWordOf edition words (get_or before next 0) j → bit old_bits j ≡ false)
      → AllLed edition starts old (length words) (object_at edition words (get_or before next 0)).references
      → AllLead edition (length words) (object_at edition words (get_or before next 0)).weak
      → IsSpread new (next + 1) heads bits
  spread-next before next new old_heads old_bits heads bits is within from met same high placed run free references weak =
      let stays : (k : ℕ) → k < length before → get_or new k 0 ≡ get_or before k 0 =
      λ k inside. ap (λ (xs : List ℕ). get_or xs k 0) from ∙ (places (is_above old (length words)) before (references_of edition words (get_or before next 0)) k inside).1 in
      let kept : (j : ℕ) → bit old_bits j ≡ true → bit bits j ≡ true = λ j set.
      elim (cases_lt j (get_or before next 0)) [
        | inl low ↦ run.below j low ∙ set
        | inr above ↦ elim (cases_lt j (get_or before next 0 + size_of (header_at edition words (get_or before next 0)))) [
          | inl inside ↦ run.inside j above inside
          | inr past ↦ run.above j past ∙ set
        ]
      ] in
      record {
        met = met;
        same = same;
        done = λ k lt. elim (cases_lt k next) [
          | inl earlier ↦
              let was = is.done k earlier in
              let object : IsDoneAbove edition starts old words bits (get_or before k 0) = record {
                placed = was.placed;
                run = λ j of. kept j (was.run j of);
                references = was.references;
                weak = was.weak;
              } in
              subst (IsDoneAbove edition starts old words bits) (sym (stays k (omega (arith, earlier, within)))) object
          | inr last ↦
              let here : get_or new k 0 ≡ get_or before next 0 = stays k (omega (arith, lt, within)) ∙ ap (λ (n : ℕ). get_or before n 0) (let e : k ≡ next = omega (arith, lt, last) in e) in
              let object : IsDoneAbove edition starts old words bits (get_or before next 0) = record {
                placed = placed;
                run = λ j of. run.inside j of.0 of.1;
                references = references;
                weak = weak;
              } in
              subst (IsDoneAbove edition starts old words bits) (sym here) object
        ];
        above = λ k lt. elim (cases_lt k next) [
          | inl earlier ↦ (let at = stays k (omega (arith, earlier, within)) in omega (arith, is.above k earlier, at))
          | inr last ↦
              let here : get_or new k 0 ≡ get_or before next 0 = stays k (omega (arith, lt, within)) ∙ ap (λ (n : ℕ). get_or before n 0) (let e : k ≡ next = omega (arith, lt, last) in e) in
              omega (arith, here, high)
        ];
        only = λ j up set. elim (cases_lt j (get_or before next 0)) [
          | inl low ↦
              let at = is.only j up (sym (run.below j low) ∙ set) in
              (at.0, omega (arith, at.1), subst (λ (i : ℕ). IsWordOf edition words i j) (sym (stays at.0 (omega (arith, at.1, within)))) at.2)
          | inr above ↦ elim (cases_lt j (get_or before next 0 + size_of (header_at edition words (get_or before next 0)))) [
            | inl inside ↦ (next, omega arith, subst (λ (i : ℕ). IsWordOf edition words i j) (sym (stays next within)) (above, inside))
            | inr past ↦
                let at = is.only j up (sym (run.above j past) ∙ set) in
                (at.0, omega (arith, at.1), subst (λ (i : ℕ). IsWordOf edition words i j) (sym (stays at.0 (omega (arith, at.1, within)))) at.2)
          ]
        ];
        apart = λ k l order lt.
            let first = stays k (omega (arith, order, lt, within)) in
            let second = stays l (omega (arith, lt, within)) in
            let olds : AreDisjoint edition words (get_or before k 0) (get_or before l 0) = elim (cases_lt l next) [
              | inl earlier ↦ is.apart k l order earlier
              | inr last ↦
                  let here : l ≡ next = omega (arith, lt, last) in
                  subst (λ (n : ℕ). AreDisjoint edition words (get_or before k 0) (get_or before n 0)) (sym here)
                  (record { clear = λ n one two. both_ways (bit old_bits n) (free n two) ((is.done k (omega (arith, order, lt))).run n one) })
            ] in
            subst (λ (i : ℕ). AreDisjoint edition words i (get_or new l 0)) (sym first) (subst (AreDisjoint edition words (get_or before k 0)) (sym second) olds);
      }

  -- all objects that were met
  pub spread-done : (queue : List ℕ) (next : ℕ) (heads bits : List ℕ) → IsSpread queue next heads bits → length queue ≤ next
      → (i : ℕ) → old ≤ i → bit heads i ≡ true → IsDoneAbove edition starts old words bits i
  spread-done queue next heads bits is all i above set =
      let at = place-of queue i (sym (is.met i above) ∙ set) in
      subst (IsDoneAbove edition starts old words bits) at.2 (is.done at.0 (omega (arith, at.1, all)))

  -- a word above whose bit is set belongs to one of them
  pub spread-only : (queue : List ℕ) (next : ℕ) (heads bits : List ℕ) → IsSpread queue next heads bits → next ≤ length queue
      → (j : ℕ) → old ≤ j → bit bits j ≡ true → (i : ℕ) × (old ≤ i) × (bit heads i ≡ true) × IsWordOf edition words i j
  spread-only queue next heads bits is within j above set =
      let at = is.only j above set in
      let high = is.above at.0 at.1 in
      (get_or queue at.0 0, high, is.met (get_or queue at.0 0) high ∙ has-at queue at.0 (omega (arith, at.1, within)), at.2)

  -- of disjoint objects the one at the lower index ends before the other begins
  disjoint-order : (i j : ℕ) → AreDisjoint edition words i j → i < j → i + size_of (header_at edition words i) ≤ j
  disjoint-order i j are order = elim (cases_lt j (i + size_of (header_at edition words i))) [
    | inl inside ↦ absurd (are.clear j (omega (arith, order), inside) (omega arith, omega arith))
    | inr past ↦ past
  ]

  disjoint-back : (i j : ℕ) → AreDisjoint edition words i j → AreDisjoint edition words j i
  disjoint-back i j are = record { clear = λ n one two. are.clear n two one }

  -- so are all of them
  pub spread-apart : (queue : List ℕ) (next : ℕ) (heads bits : List ℕ) → IsSpread queue next heads bits → length queue ≤ next
      → (i j : ℕ) → old ≤ i → bit heads i ≡ true → bit heads j ≡ true → i < j → i + size_of (header_at edition words i) ≤ j
  spread-apart queue next heads bits is all i j above set_i set_j order =
      let one = place-of queue i (sym (is.met i above) ∙ set_i) in
      let two = place-of queue j (sym (is.met j (omega (arith, above, order))) ∙ set_j) in
      let are : AreDisjoint edition words (get_or queue one.0 0) (get_or queue two.0 0) = elim (cases_order one.0 two.0) [
        | inl same ↦ absurd (let e = ap (λ (k : ℕ). get_or queue k 0) same in omega (arith, order, e, one.2, two.2))
        | inr (inl less) ↦ is.apart one.0 two.0 less (omega (arith, two.1, all))
        | inr (inr more) ↦ disjoint-back (get_or queue two.0 0) (get_or queue one.0 0) (is.apart two.0 one.0 more (omega (arith, one.1, all)))
      ] in
      disjoint-order i j (subst (λ (n : ℕ). AreDisjoint edition words n j) one.2 (subst (AreDisjoint edition words (get_or queue one.0 0)) two.2 are)) order
