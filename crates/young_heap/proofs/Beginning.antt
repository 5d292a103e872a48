-- A young collection of a heap where nothing is old is a collection of all.
use Rattle.std.proofs.Common.{◌≡◌, ℕ, ◌<◌, List, [], ◌∷◌, ◌++◌, All, refl, sym, ap, subst, ◌∙◌, arith}
use Rattle.std.proofs.lemmas.List.{append-nil}
use Rattle.heap_layout.specs.declared.edition.Edition.{Edition}
use Rattle.stopped_heap.specs.Collecting.{HasCollected}
use Rattle.rest_marks.specs.Reached.{AreReached, IsReachedFrom, by_root, by_reference}
use Rattle.rest_marks.specs.Surveys.{marks_of}
use Rattle.rest_marks.proofs.Grown.{mark-of, set-of}
use Rattle.rest_marks.proofs.Surveying.{marks-rising}
use Rattle.young_heap.specs.Young.{seeds, words_at, HasCollectedYoung, IsReachedAbove, by_seed, by_reference as by_young}

-- no number is below 0
pub no-fields : (fields : List ℕ) → All (λ j. j < 0) fields → fields ≡ []
no-fields [] below = refl
no-fields (j ∷ fields) below = absurd (let low = below 0 0 (omega arith) in omega (arith, low))

module _ (edition : Edition) (words roots : List ℕ) where
  pub reached-from : (i : ℕ) → IsReachedAbove edition 0 words roots i → IsReachedFrom edition words roots i
  reached-from i (by_seed _ leads) = by_root i (record { inside = leads.inside; address = leads.address })
  reached-from j (by_young i _ reached leads) =
      by_reference i j (reached-from i reached) (record { inside = leads.inside; address = leads.address })

  reached-above : (i : ℕ) → IsReachedFrom edition words roots i → IsReachedAbove edition 0 words roots i
  reached-above i (by_root _ leads) = by_seed i (record { inside = leads.inside; above = omega arith; address = leads.address })
  reached-above j (by_reference i _ reached leads) =
      by_young i j (reached-above i reached) (record { inside = leads.inside; above = omega arith; address = leads.address })

pub all-collected : (edition : Edition) (words roots starts fields : List ℕ) (live : ℕ) (new_roots after : List ℕ) → All (λ j. j < 0) fields
    → HasCollectedYoung edition words roots starts 0 fields live new_roots after → HasCollected edition words roots live new_roots words after
all-collected edition words roots starts fields live new_roots after below found =
    let heads = found.0 in
    let same : seeds words roots fields ≡ roots = ap (λ (xs : List ℕ). roots ++ words_at words xs) (no-fields fields below) ∙ append-nil roots in
    let are : AreReached edition words roots (marks_of heads) = record {
      rising = marks-rising heads;
      reached = λ i there.
          reached-from edition words roots i
          (subst (λ (xs : List ℕ). IsReachedAbove edition 0 words xs i) same (found.1.reached i (omega arith) (set-of heads i there)));
      all = λ i reaches.
          mark-of heads i
          (found.1.all i (subst (λ (xs : List ℕ). IsReachedAbove edition 0 words xs i) (sym same) (reached-above edition words roots i reaches)));
    } in
    (marks_of heads, are, found.2)
