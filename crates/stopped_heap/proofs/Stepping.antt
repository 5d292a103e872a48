-- A survey that grows by some lists of roots, one after the other: what it finds at last.
use Rattle.std.proofs.Common.{◌≡◌, ℕ, false, true, List, [], ◌∷◌, ◌++◌, refl, sym, ap, subst, ◌∙◌, arith}
use Rattle.std.proofs.lemmas.List.{append-nil, append_assoc}
use Rattle.heap_layout.specs.declared.edition.Edition.{Edition}
use Rattle.heap_layout.specs.Heap.{Heap, live}
use Rattle.mark_tables.specs.LiveWords.{live_indices}
use Rattle.reachability.proofs.Rising.{has-contained}
use Rattle.rest_marks.specs.Given.{heap_now}
use Rattle.stopped_heap.specs.Growth.{IsFoundIn}
use Rattle.rest_marks.specs.Places.{Found}
use Rattle.rest_marks.specs.Reached.{AreReached}
use Rattle.stopped_heap.specs.Steps.{Step, AreSteps, roots_of_all, kept_at_last, GrowthStep, AreGrowthSteps, growth_roots, found_at_last, AreFoundAlike}
use Rattle.rest_marks.proofs.Grown.{reached-together}
use Rattle.stopped_heap.proofs.Guardians.{none-reached}
use Rattle.stopped_heap.proofs.Once.{once}

-- no roots reach nothing
reached-none : (edition : Edition) (words : List ℕ) → AreReached edition words [] []
reached-none edition words = record {
  rising = λ k lt. absurd (omega (arith, lt));
  reached = λ i there. absurd (let no : false ≡ true = has-contained [] i there in cc);
  all = λ i reaches. absurd (none-reached edition words i reaches);
}

-- what some roots reach, and then the steps, is what these and their roots reach together
steps-from : (edition : Edition) (words roots kept : List ℕ) (steps : List Step) → AreReached edition words roots kept → AreSteps edition words kept steps
    → AreReached edition words (roots ++ roots_of_all steps) (kept_at_last kept steps)
steps-from edition words roots kept [] before are = subst (λ (rs : List ℕ). AreReached edition words rs kept) (sym (append-nil roots)) before
steps-from edition words roots kept (step ∷ steps) before are =
    subst (λ (rs : List ℕ). AreReached edition words rs (kept_at_last step.kept steps)) (append_assoc roots step.roots (roots_of_all steps))
    (steps-from edition words (roots ++ step.roots) step.kept steps (reached-together edition words roots kept step.roots step.kept before are.0) are.1)

pub steps-together : (edition : Edition) (words : List ℕ) (steps : List Step) → AreSteps edition words [] steps
    → AreReached edition words (roots_of_all steps) (kept_at_last [] steps)
steps-together edition words steps are = steps-from edition words [] [] steps (reached-none edition words) are

-- ---- of a survey that keeps no words

growth-from : (words roots : List ℕ) (found : Found) (steps : List GrowthStep) → IsFoundIn found words → AreReached found.edition words roots found.marks
    → AreGrowthSteps words found steps
    → IsFoundIn (found_at_last found steps) words × AreReached found.edition words (roots ++ growth_roots steps) (found_at_last found steps).marks
growth-from words roots found [] here before are =
    (here, subst (λ (rs : List ℕ). AreReached found.edition words rs found.marks) (sym (append-nil roots)) before)
growth-from words roots found (step ∷ steps) here before are =
    let together = are.0.together here roots before in
    let later = growth-from words (roots ++ step.roots) step.found steps (are.0.found_in here)
    (subst (λ (e : Edition). AreReached e words (roots ++ step.roots) step.found.marks) (sym are.0.edition) together) are.1 in (
      later.0,
      subst (λ (rs : List ℕ). AreReached found.edition words rs (found_at_last step.found steps).marks) (append_assoc roots step.roots (growth_roots steps))
          (subst (λ (e : Edition). AreReached e words ((roots ++ step.roots) ++ growth_roots steps) (found_at_last step.found steps).marks) are.0.edition later.1),
    )

growth-begun : (words : List ℕ) (begun : Found) (steps : List GrowthStep) → begun.marks ≡ [] → IsFoundIn begun words → AreGrowthSteps words begun steps
    → IsFoundIn (found_at_last begun steps) words × AreReached begun.edition words (growth_roots steps) (found_at_last begun steps).marks
growth-begun words begun steps none here are =
    growth-from words [] begun steps here (subst (λ (marks : List ℕ). AreReached begun.edition words [] marks) (sym none) (reached-none begun.edition words)) are

pub growth-together : (words : List ℕ) (begun : Found) (steps : List GrowthStep) → begun.marks ≡ [] → IsFoundIn begun words → AreGrowthSteps words begun steps
    → AreReached begun.edition words (growth_roots steps) (found_at_last begun steps).marks
growth-together words begun steps none here are = (growth-begun words begun steps none here are).1

-- what is found in the same words with the same marks is alike
found-alike : (words : List ℕ) (one other : Found) → IsFoundIn one words → IsFoundIn other words → one.edition ≡ other.edition → one.marks ≡ other.marks → AreFoundAlike one other
found-alike words one other here there same marks =
    let heap : Edition → List ℕ → Heap = λ edition kept. record { edition = edition; words = words; marks = kept; roots = [] } in
    record {
      marks = marks;
      indices = here.indices ∙ ap (λ (e : Edition). live_indices (live (heap e one.marks))) same ∙ ap (λ (kept : List ℕ). live_indices (live (heap other.edition kept))) marks
          ∙ sym there.indices;
    }

last-edition : (words : List ℕ) (found : Found) (steps : List GrowthStep) → AreGrowthSteps words found steps → (found_at_last found steps).edition ≡ found.edition
last-edition words found [] are = refl
last-edition words found (step ∷ steps) are = last-edition words step.found steps are.1 ∙ are.0.edition

pub growth-alike : (words : List ℕ) (begun : Found) (steps : List GrowthStep) (at_once : Found) → begun.marks ≡ [] → IsFoundIn begun words → AreGrowthSteps words begun steps
    → IsFoundIn at_once words → at_once.edition ≡ begun.edition → AreReached begun.edition words (growth_roots steps) at_once.marks
    → AreFoundAlike (found_at_last begun steps) at_once
growth-alike words begun steps at_once none here are there same reached =
    let last = growth-begun words begun steps none here are in
    found-alike words (found_at_last begun steps) at_once last.0 there (last-edition words begun steps are ∙ sym same)
    (once begun.edition words (growth_roots steps) (found_at_last begun steps).marks at_once.marks last.1 reached)
