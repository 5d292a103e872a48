-- Parts that lie side by side.
use Rattle.std.proofs.Common.{◌≡◌, ℕ, ◌+◌, List, [], ◌∷◌, ◌++◌, take, drop, sum, refl, sym, ap, ◌∙◌, arith, drop-drop}
use Rattle.std.proofs.Math.Seq.{take-add}
use Rattle.std.proofs.lemmas.List.{take_all}
use Rattle.std.proofs.lemmas.List.Sums.{sum_by-cons}
use Rattle.heap_layout.specs.Heap.{Heap, live}
use Rattle.page_plan.specs.Sliding.{live_words}
use Rattle.stopped_heap.specs.SlideParts.{joined_parts}
use Rattle.rest_marks.specs.Reached.{IsSound}
use Rattle.rest_slide.specs.Settled.{settled_words, collected}
use Rattle.rest_slide.proofs.Settling.{settled-all}

-- they are as many words as they have together
joined-take : (words : List ℕ) (first : ℕ) (counts : List ℕ) → joined_parts words first counts ≡ take (sum counts) (drop first words)
joined-take words first [] = refl
joined-take words first (count ∷ counts) =
    let total : sum (count ∷ counts) ≡ count + sum counts = sum_by-cons (λ (n : ℕ). n) count counts in
    let further : drop count (drop first words) ≡ drop (first + count) words = drop-drop count first words in
    ap (λ (xs : List ℕ). take count (drop first words) ++ xs)
    (joined-take words (first + count) counts ∙ ap (take (sum counts)) (sym further))
    ∙ sym (take-add count (sum counts) (drop first words)) ∙ ap (λ (n : ℕ). take n (drop first words)) (sym total)

pub joined-whole : (heap : Heap) (counts : List ℕ) → IsSound heap → sum counts ≡ live_words (live heap)
    → joined_parts (settled_words (live heap)) 0 counts ≡ (collected heap).words
joined-whole heap counts sound all =
    joined-take (settled_words (live heap)) 0 counts
    ∙ take_all (sum counts) (settled_words (live heap)) (let many = settled-all heap sound in omega (arith, all, many))
