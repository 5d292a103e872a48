-- The kinds of a page, told word by word.
use Rattle.std.proofs.Common.{◌≡◌, ◌∙◌, ℕ, ◌+◌, ◌-◌, ◌<◌, ◌≤◌, List, get_or, set, Option, Some, None, inl, inr, ap, sym, subst, refl, arith}
use Rattle.std.specs.Prelude.{replicate}
use Rattle.std.proofs.lemmas.Bool.{cases_lt}
use Rattle.std.proofs.lemmas.List.{length-set, get_or-replicate, get_or_past, get_or-set_same, get_or-set_other, length-replicate}
use Rattle.heap_layout.specs.declared.kind.Kind.{Kind}
use Rattle.heap_layout.specs.Heap.{Heap, Object, live, IsClosed}
use Rattle.page_plan.specs.Sliding.{kind, live_words}
use Rattle.page_plan.specs.Planned.{IsToldTo}
use Rattle.page_plan.proofs.Shapes.{kind-past}

none-of : (n k : ℕ) (none : Option Kind) → get_or (replicate n none) k none ≡ none
none-of n k none =
    elim (cases_lt k n) [
      | inl lt ↦ get_or-replicate n k none none lt
      | inr ge ↦ get_or_past (replicate n none) k none (omega (arith, length-replicate n none, ge))
    ]

-- at first nothing is told
pub told-none : (objects : List Object) (begin : ℕ) → IsToldTo objects begin begin (replicate 64 None)
told-none objects begin = record {
  long = refl;
  told = λ k early. absurd (omega (arith, early));
  rest = λ k past. none-of 64 k None;
}

-- one more kind is told
pub told-more : (objects : List Object) (begin n : ℕ) (kinds : List (Option Kind)) (c : Kind) → begin ≤ n → n < begin + 64
    → kind objects n ≡ Some c → IsToldTo objects begin n kinds → IsToldTo objects begin (n + 1) (set kinds (n - begin) (Some c))
told-more objects begin n kinds c begun room is before = record {
  long = length-set kinds _ _ ∙ before.long;
  told = λ k early. elim (cases_lt (begin + k) n) [
    | inl less ↦ get_or-set_other kinds (n - begin) k (Some c) None (λ e. omega (arith, less, e, begun)) ∙ before.told k less
    | inr ge ↦
        let same : k ≡ n - begin = omega (arith, ge, early, begun) in
        let there : begin + (n - begin) ≡ n = omega (arith, begun) in
        subst (λ (m : ℕ). get_or (set kinds (n - begin) (Some c)) m None ≡ kind objects (begin + m)) (sym same)
        (get_or-set_same kinds (n - begin) (Some c) None (omega (arith, before.long, begun, room))
        ∙ sym is ∙ ap (kind objects) (sym there))
  ];
  rest = λ k past. get_or-set_other kinds (n - begin) k (Some c) None (λ e. omega (arith, past, e, begun)) ∙ before.rest k (omega (arith, past));
}

-- all kinds of a page are told
pub told-whole : (heap : Heap) → IsClosed heap → (begin n : ℕ) (kinds : List (Option Kind)) → IsToldTo (live heap) begin n kinds
    → (n < begin + 64 → live_words (live heap) ≤ n) → (k : ℕ) → k < 64 → get_or kinds k None ≡ kind (live heap) (begin + k)
told-whole heap closed begin n kinds made last k inside =
    elim (cases_lt (begin + k) n) [
      | inl less ↦ made.told k less
      | inr ge ↦ made.rest k ge ∙ sym (kind-past heap closed (begin + k) (omega (arith, ge, inside, last (omega (arith, ge, inside)))))
    ]
