-- Accepted heaps are sound, and what is reachable in a row of objects is reached.
use Rattle.std.proofs.Common.{◌≡◌, ℕ, ◌-◌, ◌^◌, ◌==◌, true, leb, List, length, get_or, inl, inr, refl, sym, ap, subst, ◌∙◌, arith}
use Rattle.std.proofs.lemmas.Bool.{or_left, or_right, and_from, le-leb, lt-ltb, eq-eqb}
use Rattle.heap_layout.specs.declared.edition.Edition.{Edition}
use Rattle.heap_layout.specs.Heap.{Heap, object_at, from_address, starts, is_start, IsTarget, IsValue, IsClosed}
use Rattle.heap_layout.specs.Values.{is_immediate}
use Rattle.heap_layout.proofs.Values.{value-cases}
use Rattle.reachability.specs.Queue.{has, is_address}
use Rattle.reachability.specs.Reachable as row
use Rattle.rest_slide.proofs.Targets.{target-cases}
use Rattle.reachability.proofs.Queues.{place-of}
use Rattle.reachability.proofs.Rising.{contains-had}
use Rattle.reachability.proofs.Starts.{starts-within}
use Rattle.rest_marks.specs.Reached.{is_below, leads_within, is_within, IsReachedFrom, by_root, by_reference, AreReached, IsSound}
use Rattle.rest_marks.proofs.Heads.{any-at}
use Rattle.stopped_heap.proofs.Collected.{reached-marked}

start-had : (row : List ℕ) (i : ℕ) → has row i ≡ true → is_start row i ≡ true
start-had row i there = let at = place-of row i there in any-at (λ start. start == i) row at.0 at.1 (eq-eqb (get_or row at.0 0) i at.2)

-- a target of the row is null or the address of a word
target-within : (edition : Edition) (words : List ℕ) (word : ℕ) → IsTarget (starts edition words) word → leads_within (length words) word ≡ true
target-within edition words word target = elim (target-cases (starts edition words) word target) [
  | inl null ↦ subst (λ (w : ℕ). leads_within (length words) w ≡ true) (sym null) refl
  | inr at ↦
      let i = at.0 in
      let back : from_address i - 2 ^ 32 ≡ i = omega arith in
      let start : is_start (starts edition words) i ≡ true = start-had (starts edition words) i at.1 in
      let within = starts-within edition 0 0 words i start in
      let address : is_address (is_below (length words)) (from_address i) ≡ true =
      and_from (leb (2 ^ 32) (from_address i)) (is_below (length words) (from_address i - 2 ^ 32)) (le-leb (2 ^ 32) (from_address i) (omega arith))
      (ap (is_below (length words)) back ∙ lt-ltb i (length words) (omega (arith, within))) in
      subst (λ (w : ℕ). leads_within (length words) w ≡ true) (sym at.2) (or_right (from_address i == 0) (is_address (is_below (length words)) (from_address i)) address)
]

-- so is a value, or it is an immediate
value-within : (edition : Edition) (words : List ℕ) (word : ℕ) → IsValue edition (starts edition words) word → is_within edition (length words) word ≡ true
value-within edition words word value = elim (value-cases edition (starts edition words) word value) [
  | inl immediate ↦ or_left (is_immediate edition word) (leads_within (length words) word) immediate
  | inr target ↦ or_right (is_immediate edition word) (leads_within (length words) word) (target-within edition words word target)
]

pub closed-sound : (heap : Heap) → IsClosed heap → IsSound heap
closed-sound heap is = record {
  few_words = is.few_words;
  few_roots = is.few_roots;
  placed = is.placed;
  apart = is.apart;
  roots = is.roots;
  references = is.references;
  weak = λ k d lt f e inside. value-within heap.edition heap.words (get_or (object_at heap.edition heap.words (get_or heap.marks k d)).weak f e) (is.weak k d lt f e inside);
}

-- what is reachable is reached
reachable-reached : (edition : Edition) (words roots : List ℕ) (i : ℕ) → row.IsReachable edition words roots i → IsReachedFrom edition words roots i
reachable-reached edition words roots i (row.by_root _ leads) =
    by_root i (record { inside = let within = starts-within edition 0 0 words i leads.start in omega (arith, within); address = leads.address })
reachable-reached edition words roots j (row.by_reference i _ reachable leads) =
    by_reference i j (reachable-reached edition words roots i reachable)
    (record { inside = let within = starts-within edition 0 0 words j leads.start in omega (arith, within); address = leads.address })

-- if just the reachable objects are marked, they are the objects that are reached
pub marks-reached : (heap : Heap) → IsClosed heap → row.AreReachable heap.edition heap.words heap.roots heap.marks → AreReached heap.edition heap.words heap.roots heap.marks
marks-reached heap is are = record {
  rising = are.rising;
  reached = λ i there. reachable-reached heap.edition heap.words heap.roots i (are.reachable i there);
  all = λ i reached. contains-had heap.marks i (reached-marked heap is.few_words is.roots is.references i reached);
}
