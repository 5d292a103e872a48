-- How many objects the queue has.
use Rattle.std.proofs.Common.{◌≡◌, ℕ, ◌<◌, ◌==◌, ◌||◌, true, false, List, [], ◌∷◌, ◌++◌, length, inl, inr, sym, ◌∙◌, arith, length-append}
use Rattle.std.specs.Cmp.{nat_eq_equiv}
use Rattle.std.proofs.lemmas.Bool.{ltb-true, lt-ltb, eqb-true, or_cases}
use Rattle.std.proofs.lemmas.List.Folds.{list_any-append}
use Rattle.std.proofs.lemmas.Map.Keys.{IsDistinct-push}
use Rattle.std.proofs.lemmas.Map.Steps.{length-le_from_distinct_below}
use Rattle.reachability.specs.Queue.{has, after_word}
use Rattle.reachability.proofs.Queues.{IsQueue, queue-none, queue-all}
use Rattle.rest_marks.specs.Reached.{is_below}
use Rattle.rest_marks.specs.Meeting.{AreOnce}

-- objects that are those of a queue are different ones
pub once-of : (count : ℕ) (P : ℕ → Type 0) (queue : List ℕ) → IsQueue (is_below count) P queue → AreOnce count queue
once-of count P queue is = record { once = is.once; within = λ i there. ltb-true i count (is.of_row i there) }

pub queue-of : (count : ℕ) (queue : List ℕ) → AreOnce count queue → IsQueue (is_below count) (λ _. Unit {0}) queue
queue-of count queue are = record { of_row = λ i there. lt-ltb i count (are.within i there); once = are.once; holds = λ _ _. tt }

-- in the empty queue
pub once-none : (count : ℕ) → AreOnce count []
once-none count = once-of count (λ _. Unit {0}) [] (queue-none (is_below count) (λ _. Unit {0}))

-- after a word more
pub once-next : (count : ℕ) (queue : List ℕ) (word : ℕ) → AreOnce count queue → AreOnce count (after_word (is_below count) queue word)
once-next count queue word are =
    once-of count (λ _. Unit {0}) (after_word (is_below count) queue word)
    (queue-all (is_below count) (λ _. Unit {0}) queue (word ∷ []) (queue-of count queue are) (λ _ _ _. tt))

-- with one more that it has not
pub once-push : (count : ℕ) (queue : List ℕ) (i : ℕ) → AreOnce count queue → i < count → has queue i ≡ false → AreOnce count (queue ++ i ∷ [])
once-push count queue i are lt new = record {
  once = IsDistinct-push nat_eq_equiv queue i are.once new;
  within = λ j there. elim (or_cases (has queue j) ((j == i) || false) (sym (list_any-append (λ k. j == k) queue (i ∷ [])) ∙ there)) [
    | inl before ↦ are.within j before
    | inr last ↦ elim (or_cases (j == i) false last) [
      | inl same ↦ omega (arith, eqb-true j i same, lt)
      | inr never ↦ absurd (let none : false ≡ true = never in cc)
    ]
  ];
}

-- so there are fewer in it than words
pub once-short : (count : ℕ) (queue : List ℕ) (i : ℕ) → AreOnce count queue → i < count → has queue i ≡ false → length queue < count
once-short count queue i are lt new =
    let more = once-push count queue i are lt new in
    omega (arith, length-le_from_distinct_below (queue ++ i ∷ []) count more.once more.within, length-append queue (i ∷ []))
