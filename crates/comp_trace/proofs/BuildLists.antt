-- The lists of builds of a finished heap over which one thread ran a trace.
use Rattle.std.proofs.Common.{◌≡◌, ℕ, suc, ◌+◌, ◌<◌, List, [], ◌∷◌, None, Some, length, map, refl, ap, ◌∙◌, arith, inl, inr}
use Rattle.std.specs.Prelude.{IsSome}
use Rattle.std.specs.List.{range_with_len}
use mathlib.Core.Option.{some}
use lib.ListN.{get_elem?}
use Rattle.comp_mutator.specs.Closing.{page_at}
use Rattle.comp_mutator.specs.Lists.{times, total}
use Rattle.comp_mutator.specs.Passes.{builds_of}
use Rattle.comp_mutator.specs.Setup.{Setup}
use Rattle.comp_mutator.specs.View.{Slot}
use Rattle.comp_mutator.proofs.Sums.{there_at}
use Rattle.comp_mutator.proofs.Rows.{at_map}
use Rattle.comp_mutator.specs.Finishes.{builds_in, pages_of, there, HasPages}
use Rattle.comp_mutator.specs.Mutators.{pass_of}
use Rattle.comp_mutator.specs.Finished.{Finished}
use Rattle.comp_mutator.specs.declared.mutator.Mutator.{Mutator}
use Rattle.comp_trace.specs.LineBuilds.{built_by, HaveBuilt}

-- the lists of mutators that built exactly these pages, from one index on
lists_from : {L : Type 0} (low : ℕ) (mutators : List (Mutator L)) (built : List (ℕ × ℕ))
    → ((k : ℕ) (m : Mutator L) → get_elem? mutators k ≡ some m → builds_of (pass_of m) ≡ built_by (low + k) built)
    → map builds_of (map pass_of mutators) ≡ map (λ (k : ℕ). built_by k built) (range_with_len low (length mutators))
lists_from low [] built h = refl
lists_from {L} low (m ∷ mutators) built h =
    let here : low + 0 ≡ low = omega arith in
    let first : builds_of (pass_of m) ≡ built_by low built = h 0 m refl ∙ ap (λ (k : ℕ). built_by k built) here in
    let rest = lists_from (low + 1) mutators built
    (λ k x at. let next : low + suc k ≡ low + 1 + k = omega arith in h (suc k) x at ∙ ap (λ (j : ℕ). built_by j built) next) in
    ap (λ (l : List ℕ). l ∷ map builds_of (map pass_of mutators)) first ∙ ap (λ (l : List (List ℕ)). built_by low built ∷ l) rest

-- a page that none of them built is in no list
unnamed : {L : Type 0} (p : ℕ) (mutators : List (Mutator L)) → ((k : ℕ) (m : Mutator L) → get_elem? mutators k ≡ some m → times p (builds_of (pass_of m)) ≡ 0)
    → total (times p) (map builds_of (map pass_of mutators)) ≡ 0
unnamed p [] h = refl
unnamed p (m ∷ mutators) h = omega (arith, h 0 m refl, unnamed p mutators (λ k x at. h (suc k) x at))

is_there : (slot : Slot) → IsSome slot → there slot ≡ 1
is_there None h = absurd cc
is_there (Some page) h = refl

-- the lists are what the run built: there is no page that none of the mutators built
pub lists_built : {L : Type 0} (u : Setup) (mutators : List (Mutator L)) (f : Finished) (built : List (ℕ × ℕ)) → 0 < length mutators → HasPages u (map pass_of mutators) f → HaveBuilt mutators built
    → builds_in f ≡ map (λ (k : ℕ). built_by k built) (range_with_len 0 (length mutators))
lists_built u mutators f built enough pages (inl h) = pages.builds ∙ lists_from 0 mutators built
    (λ k m at. let first : k ≡ 0 + k = omega arith in h.own k m at ∙ ap (λ (j : ℕ). built_by j built) first)
lists_built u mutators f built enough pages (inr (p, h)) =
    let first = there_at mutators 0 enough in
    let known = pages.known 0 (pass_of first.0) (at_map pass_of mutators 0 first.0 first.1) p (h 0 first.0 first.1).0 in
    let once = pages.once p in
    let none = ap (total (times p)) pages.builds ∙ unnamed p mutators (λ k m at. (h k m at).1) in
    absurd (omega (arith, once, is_there (page_at (pages_of f) p) known, none))
