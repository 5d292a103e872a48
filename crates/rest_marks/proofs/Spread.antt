-- What was done with the first objects of the queue.
use Rattle.std.proofs.Common.{◌≡◌, ℕ, ◌+◌, ◌<◌, ◌≤◌, true, false, List, length, get_or, fold, inl, inr, sym, ap, subst, ◌∙◌, arith}
use Rattle.std.proofs.lemmas.Bool.{cases_lt, cases_order, both_ways}
use Rattle.heap_layout.specs.declared.edition.Edition.{Edition}
use Rattle.heap_layout.specs.Bits.{bit}
use Rattle.heap_layout.specs.Header.{size_of}
use Rattle.heap_layout.specs.Heap.{header_at, object_at, IsPlaced}
use Rattle.mark_tables.proofs.Runs.{IsRunSet}
use Rattle.reachability.specs.Queue.{after_word}
use Rattle.reachability.proofs.Queues.{places, place-of, has-at}
use Rattle.rest_marks.specs.Reached.{is_below, IsWordOf}
use Rattle.rest_marks.specs.Meeting.{AreMet, AllLead, IsDone, AreApart}
use Rattle.rest_marks.proofs.Reaching.{references_of}

-- of two objects one ends before the other begins
pub record AreDisjoint (edition : Edition) (words : List ℕ) (i j : ℕ) : Type 0 where
  pub clear : (n : ℕ) → IsWordOf edition words i n → IsWordOf edition words j n → ⊥

-- the bits of the first `next` objects of the queue are set, and no others; these objects are placed and do not overlap
pub record IsSpread (edition : Edition) (words queue : List ℕ) (next : ℕ) (heads bits : List ℕ) : Type 0 where
  pub met : AreMet queue heads
  pub same : length heads ≡ length bits
  pub done : (k : ℕ) → k < next → IsDone edition words bits (get_or queue k 0)
  pub only : (j : ℕ) → bit bits j ≡ true → (k : ℕ) × (k < next) × IsWordOf edition words (get_or queue k 0) j
  pub apart : (k l : ℕ) → k < l → l < next → AreDisjoint edition words (get_or queue k 0) (get_or queue l 0)

-- before the first object
pub spread-first : (edition : Edition) (words queue heads bits : List ℕ) → AreMet queue heads → length heads ≡ length bits
    → ((j : ℕ) → bit bits j ≡ false) → IsSpread edition words queue 0 heads bits
spread-first edition words queue heads bits met same none = record {
  met = met;
  same = same;
  done = λ k lt. absurd (omega (arith, lt));
  only = λ j set. absurd (both_ways (bit bits j) (none j) set);
  apart = λ k l order lt. absurd (omega (arith, lt));
}

-- one object more
pub spread-next : (edition : Edition) (words old : List ℕ) (next : ℕ) (new old_heads old_bits heads bits : List ℕ) → IsSpread edition words old next old_heads old_bits
    → next < length old → new ≡ fold (after_word (is_below (length words))) old (references_of edition words (get_or old next 0)) → AreMet new heads → length heads ≡ length bits
    → IsPlaced edition words (get_or old next 0)
    → IsRunSet (get_or old next 0) (size_of (header_at edition words (get_or old next 0))) old_bits bits
    → ((j : ℕ) → IsWordOf edition words (get_or old next 0) j → bit old_bits j ≡ false)
    → AllLead edition (length words) (object_at edition words (get_or old next 0)).references → AllLead edition (length words) (object_at edition words (get_or old next 0)).weak
    → IsSpread edition words new (next + 1) heads bits
spread-next edition words old next new old_heads old_bits heads bits is within from met same placed run free references weak =
    let stays : (k : ℕ) → k < length old → get_or new k 0 ≡ get_or old k 0 =
    λ k inside. ap (λ (xs : List ℕ). get_or xs k 0) from ∙ (places (is_below (length words)) old (references_of edition words (get_or old next 0)) k inside).1 in
    let kept : (j : ℕ) → bit old_bits j ≡ true → bit bits j ≡ true = λ j set.
    elim (cases_lt j (get_or old next 0)) [
      | inl low ↦ run.below j low ∙ set
      | inr above ↦ elim (cases_lt j (get_or old next 0 + size_of (header_at edition words (get_or old next 0)))) [
        | inl inside ↦ run.inside j above inside
        | inr past ↦ run.above j past ∙ set
      ]
    ] in
    record {
      met = met;
      same = same;
      done = λ k lt. elim (cases_lt k next) [
        | inl earlier ↦
            let before = is.done k earlier in
            let object : IsDone edition words bits (get_or old k 0) = record {
              placed = before.placed;
              run = λ j of. kept j (before.run j of);
              references = before.references;
              weak = before.weak;
            } in
            subst (IsDone edition words bits) (sym (stays k (omega (arith, earlier, within)))) object
        | inr last ↦
            let here : get_or new k 0 ≡ get_or old next 0 = stays k (omega (arith, lt, within)) ∙ ap (λ (n : ℕ). get_or old n 0) (let e : k ≡ next = omega (arith, lt, last) in e) in
            let object : IsDone edition words bits (get_or old next 0) = record {
              placed = placed;
              run = λ j of. run.inside j of.0 of.1;
              references = references;
              weak = weak;
            } in
            subst (IsDone edition words bits) (sym here) object
      ];
      only = λ j set. elim (cases_lt j (get_or old next 0)) [
        | inl low ↦
            let at = is.only j (sym (run.below j low) ∙ set) in
            (at.0, omega (arith, at.1), subst (λ (i : ℕ). IsWordOf edition words i j) (sym (stays at.0 (omega (arith, at.1, within)))) at.2)
        | inr above ↦ elim (cases_lt j (get_or old next 0 + size_of (header_at edition words (get_or old next 0)))) [
          | inl inside ↦ (next, omega arith, subst (λ (i : ℕ). IsWordOf edition words i j) (sym (stays next within)) (above, inside))
          | inr past ↦
              let at = is.only j (sym (run.above j past) ∙ set) in
              (at.0, omega (arith, at.1), subst (λ (i : ℕ). IsWordOf edition words i j) (sym (stays at.0 (omega (arith, at.1, within)))) at.2)
        ]
      ];
      apart = λ k l order lt.
          let first = stays k (omega (arith, order, lt, within)) in
          let second = stays l (omega (arith, lt, within)) in
          let olds : AreDisjoint edition words (get_or old k 0) (get_or old l 0) = elim (cases_lt l next) [
            | inl earlier ↦ is.apart k l order earlier
            | inr last ↦
                let here : l ≡ next = omega (arith, lt, last) in
                subst (λ (n : ℕ). AreDisjoint edition words (get_or old k 0) (get_or old n 0)) (sym here)
                (record { clear = λ n one two. both_ways (bit old_bits n) (free n two) ((is.done k (omega (arith, order, lt))).run n one) })
          ] in
          subst (λ (i : ℕ). AreDisjoint edition words i (get_or new l 0)) (sym first) (subst (AreDisjoint edition words (get_or old k 0)) (sym second) olds);
    }

-- all objects that were met
pub spread-done : (edition : Edition) (words queue : List ℕ) (next : ℕ) (heads bits : List ℕ) → IsSpread edition words queue next heads bits → length queue ≤ next
    → (i : ℕ) → bit heads i ≡ true → IsDone edition words bits i
spread-done edition words queue next heads bits is all i set =
    let at = place-of queue i (sym (is.met i) ∙ set) in
    subst (IsDone edition words bits) at.2 (is.done at.0 (omega (arith, at.1, all)))

-- a word whose bit is set belongs to one of them
pub spread-only : (edition : Edition) (words queue : List ℕ) (next : ℕ) (heads bits : List ℕ) → IsSpread edition words queue next heads bits → next ≤ length queue
    → (j : ℕ) → bit bits j ≡ true → (i : ℕ) × (bit heads i ≡ true) × IsWordOf edition words i j
spread-only edition words queue next heads bits is within j set =
    let at = is.only j set in
    (get_or queue at.0 0, is.met (get_or queue at.0 0) ∙ has-at queue at.0 (omega (arith, at.1, within)), at.2)

-- of disjoint objects the one at the lower index ends before the other begins
disjoint-order : (edition : Edition) (words : List ℕ) (i j : ℕ) → AreDisjoint edition words i j → i < j → i + size_of (header_at edition words i) ≤ j
disjoint-order edition words i j are order = elim (cases_lt j (i + size_of (header_at edition words i))) [
  | inl inside ↦ absurd (are.clear j (omega (arith, order), inside) (omega arith, omega arith))
  | inr past ↦ past
]

disjoint-back : (edition : Edition) (words : List ℕ) (i j : ℕ) → AreDisjoint edition words i j → AreDisjoint edition words j i
disjoint-back edition words i j are = record { clear = λ n one two. are.clear n two one }

-- so are all of them
pub spread-apart : (edition : Edition) (words queue : List ℕ) (next : ℕ) (heads bits : List ℕ) → IsSpread edition words queue next heads bits → length queue ≤ next
    → AreApart edition words heads
spread-apart edition words queue next heads bits is all i j set_i set_j order =
    let one = place-of queue i (sym (is.met i) ∙ set_i) in
    let two = place-of queue j (sym (is.met j) ∙ set_j) in
    let are : AreDisjoint edition words (get_or queue one.0 0) (get_or queue two.0 0) = elim (cases_order one.0 two.0) [
      | inl same ↦ absurd (let e = ap (λ (k : ℕ). get_or queue k 0) same in omega (arith, order, e, one.2, two.2))
      | inr (inl less) ↦ is.apart one.0 two.0 less (omega (arith, two.1, all))
      | inr (inr more) ↦ disjoint-back edition words (get_or queue two.0 0) (get_or queue one.0 0) (is.apart two.0 one.0 more (omega (arith, one.1, all)))
    ] in
    disjoint-order edition words i j (subst (λ (n : ℕ). AreDisjoint edition words n j) one.2 (subst (AreDisjoint edition words (get_or queue one.0 0)) two.2 are)) order
